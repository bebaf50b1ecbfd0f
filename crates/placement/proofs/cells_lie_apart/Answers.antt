use Rattle.placement.proofs.LieApart.{cells_lie_apart_lem}
use Rattle.placement.proofs.cells_lie_apart.Goals as goal

pub returns : goal.returns
returns g c = cells_lie_apart_lem g.T.Length.kind
