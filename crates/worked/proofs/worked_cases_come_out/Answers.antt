use Rattle.std.proofs.Common.{refl}
use Rattle.worked.specs.Worked.{cases}
use Rattle.worked.proofs.Checks.{all_come_out}
use Rattle.worked.proofs.worked_cases_come_out.Goals as goal

pub returns : goal.returns
returns c = all_come_out c.laws_hold.ensures cases refl
