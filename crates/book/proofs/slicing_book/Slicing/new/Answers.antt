-- Each refusal by the test or the number that caused it; the book by the two rows of the one part that is left, which
-- are never refused.
use Rattle.std.proofs.Common.{ap, arith}
use Rattle.refusal.specs.declared.fault.SheetFault.TheVariants as sheet
use Rattle.book.specs.Slicing.{NoExpression, bad_count, wrong_length, breaks}
use Rattle.book.proofs.Exits.{exit_told}
use Rattle.book.proofs.Trees.{whole_expression, whole_lawful}
use Rattle.book.proofs.slicing_book.Slicing.new.Goals as goal

pub returns-in_err-countable : goal.returns-in_err-countable
returns-in_err-countable c =
    let f = c.in_err-countable.ensures in
    exit_told _ (NoExpression c.args.n c.args.expression.now) c.from_residual.result _ _ c.from_residual.ensures.1 f.told (bad_count f.out)

pub returns-then-expression-n : goal.returns-then-expression-n
returns-then-expression-n c = wrong_length c.in_ok-countable.ensures (λ e. c.if-expression-n.true (omega arith))

pub returns-in_err-rows : goal.returns-in_err-rows
returns-in_err-rows c =
    let f = c.in_err-rows.ensures in
    exit_told _ (NoExpression c.args.n c.args.expression.now) c.from_residual-in_err-rows.result _ _ c.from_residual-in_err-rows.ensures.1 (ap sheet.Field f.2)
    (breaks c.in_ok-countable.ensures (omega arith) f.1)

pub returns-in_err-pair : goal.returns-in_err-pair
returns-in_err-pair c =
    absurd (whole_lawful c.args.n c.args.expression.now c.in_ok-rows.rows c.in_ok-rows.ensures _ _ c.deref.ensures.0 c.deref-2.ensures.0 c.in_ok-countable.ensures c.in_err-pair.ensures)

pub returns : goal.returns
returns c = whole_expression c.args.n c.args.expression.now c.in_ok-rows.rows c.in_ok-rows.ensures _ _ c.deref.ensures.0 c.deref-2.ensures.0 _ c.in_ok-pair.ensures
