use Rattle.placement.proofs.ShortPaths.{paths_are_short_lem}
use Rattle.placement.proofs.paths_are_short.Goals as goal

pub returns : goal.returns
returns c = paths_are_short_lem
