use Rattle.std.proofs.Common.{arith}
use Rattle.std.proofs.lemmas.Bool.Decides.{nat_tests}
use Rattle.writing.proofs.Numbers.{long_by_count}
use Rattle.writing.proofs.checks.is_long.Goals as goal

pub returns-else-is_empty : goal.returns-else-is_empty
returns-else-is_empty g c =
    let long = long_by_count g.T.Numbered.numbers g.T.Length.NUMBERS g.met.T.Numbered.listed c.args.processes c.args.n c.args.list.now in
    rw long (grind (arith, nat_tests))
