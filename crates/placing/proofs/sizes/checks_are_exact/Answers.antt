-- Both theorems stand in `OneFault`.
use Rattle.placing.proofs.OneFault.{lists_exact, sizes_exact}
use Rattle.placing.proofs.sizes.checks_are_exact.Goals as goal

pub returns : goal.returns
returns g c = record { lists = lists_exact; sizes = sizes_exact g.T.Length.kind }
