use Rattle.placement.proofs.ValuesExist.{values_exist_lem}
use Rattle.placement.proofs.values_exist.Goals as goal

pub returns : goal.returns
returns g c = values_exist_lem g.met.T.Length.laws
