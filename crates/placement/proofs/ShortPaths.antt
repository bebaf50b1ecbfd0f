-- Without a forbidden couple paths are short, downward and across.
use Rattle.placement.specs.Theorems.{PathsAreShort}
use Rattle.placement.proofs.ShortDescents.{descent_is_short}
use Rattle.placement.proofs.ShortChains.{chain_is_short}

pub paths_are_short_lem : PathsAreShort
paths_are_short_lem m lawful clean = (descent_is_short m lawful clean, chain_is_short m lawful clean)
