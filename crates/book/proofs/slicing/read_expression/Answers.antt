use Rattle.std.proofs.Common.{[], arith}
use Rattle.std.proofs.lemmas.Result.{MatchResult-at_ok, MatchResult-at_err}
use Rattle.book.specs.Waiting.{BreaksAt}
use Rattle.book.proofs.Exits.{exit_with, ok_or_told}
use Rattle.book.proofs.Reading.{reading_none, reading_more, reading_breaks, reading_whole}
use Rattle.book.proofs.slicing.read_expression.Goals as goal

pub loop-i-init : goal.loop-i-init
loop-i-init c = ([], reading_none c.args.n c.args.expression.now, c.new-waiting.ensures)

pub returns-in_err-ok_or : goal.returns-in_err-ok_or
returns-in_err-ok_or c =
    let n = c.args.n in
    let expr = c.args.expression.now in
    let h = c.loop-i.invariant in
    let out = MatchResult-at_err _ _ c.in_err-ok_or.field-0.0 c.in_err-ok_or.was (ok_or_told _ _ c.read.result _ c.ok_or.result c.ok_or.ensures.value (c.read.ensures h.0 h.2 h.1.once)) in
    exit_with _ (BreaksAt n expr) c.from_residual.result c.in_err-ok_or.field-0.0 c.from_residual.ensures.1
    (c.loop-i.i, reading_breaks n expr c.loop-i.i h.0 c.loop-i-test.true h.1 out.1.0, out.0)

pub loop-i-preserved : goal.loop-i-preserved
loop-i-preserved c =
    let h = c.loop-i.invariant in
    let next = MatchResult-at_ok _ _ c.in_ok-ok_or.field-0 c.in_ok-ok_or.was (ok_or_told _ _ c.read.result _ c.ok_or.result c.ok_or.ensures.value (c.read.ensures h.0 h.2 h.1.once)) in
    (next.0, reading_more c.args.n c.args.expression.now c.loop-i.i h.0 c.loop-i-test.true h.1 next.0 next.1 next.3, next.2)

pub returns : goal.returns
returns c =
    let h = c.loop-i.invariant in
    reading_whole c.args.n c.args.expression.now c.loop-i.i c.loop-i.waiting h.0 c.requires.long (omega arith) (omega arith) h.1 h.2
