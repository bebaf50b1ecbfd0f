use Rattle.std.proofs.Common.{sym, ◌∙◌}
use Rattle.refusal.specs.declared.fault.FieldFault.TheVariants as fault
use Rattle.writing.proofs.Checking.{passed, refused}
use Rattle.writing.proofs.Numbers.{size_by_numbers}
use Rattle.writing.proofs.checks.check_size.Goals as goal

pub returns-then-is_size : goal.returns-then-is_size
returns-then-is_size g c =
    let same = size_by_numbers (g.T.Numbered.numbers c.args.length) c.is_size.result c.is_size.ensures (g.met.T.Numbered.sized c.args.length) in
    sym (passed _ (fault.NotASize 0 c.args.cell c.args.side) (same ∙ c.if-is_size.true))

pub returns-else-is_size : goal.returns-else-is_size
returns-else-is_size g c =
    let same = size_by_numbers (g.T.Numbered.numbers c.args.length) c.is_size.result c.is_size.ensures (g.met.T.Numbered.sized c.args.length) in
    sym (refused _ (fault.NotASize 0 c.args.cell c.args.side) (same ∙ c.if-is_size.false))
