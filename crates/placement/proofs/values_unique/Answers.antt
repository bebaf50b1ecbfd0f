use Rattle.placement.proofs.Unique.{values_unique_lem}
use Rattle.placement.proofs.values_unique.Goals as goal

pub returns : goal.returns
returns g c = values_unique_lem g.met.T.Length.laws
