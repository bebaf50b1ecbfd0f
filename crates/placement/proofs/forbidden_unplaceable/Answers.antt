use Rattle.placement.proofs.Unplaceable.{forbidden_unplaceable_lem}
use Rattle.placement.proofs.forbidden_unplaceable.Goals as goal

pub returns : goal.returns
returns g c = forbidden_unplaceable_lem g.met.T.Length.laws
