-- Each refusal by the test or the row that caused it; the book by its two rows turned round.
use Rattle.std.proofs.Common.{refl, ap}
use Rattle.refusal.specs.declared.fault.SheetFault.TheVariants as sheet
use Rattle.book.specs.Rows.{NoRows, bad_count, first_length, second_length, first_breaks, second_breaks}
use Rattle.book.proofs.Exits.{exit_told}
use Rattle.book.proofs.Inverses.{inverse_row, inverse_places, told_by_places}
use Rattle.book.proofs.sequence_pair.SequencePair.new.Goals as goal

pub returns-in_err-countable : goal.returns-in_err-countable
returns-in_err-countable c =
    let f = c.in_err-countable.ensures in
    exit_told _ (NoRows c.args.n c.args.first.now c.args.second.now) c.from_residual.result _ _ c.from_residual.ensures.1 f.told (bad_count f.out)

pub returns-then-first-n : goal.returns-then-first-n
returns-then-first-n c = first_length c.in_ok-countable.ensures c.if-first-n.true

pub returns-then-second-n : goal.returns-then-second-n
returns-then-second-n c = second_length c.in_ok-countable.ensures c.if-first-n.false c.if-second-n.true

pub returns-in_err-first : goal.returns-in_err-first
returns-in_err-first c =
    let f = c.in_err-first.ensures in
    exit_told _ (NoRows c.args.n c.args.first.now c.args.second.now) c.from_residual-in_err-first.result _ _ c.from_residual-in_err-first.ensures.1 (ap sheet.Field f.2)
    (first_breaks c.in_ok-countable.ensures c.if-first-n.false c.if-second-n.false f.1)

pub returns-in_err-second : goal.returns-in_err-second
returns-in_err-second c =
    let f = c.in_err-second.ensures in
    let first_row = inverse_row c.args.n c.args.first.now c.in_ok-first.first c.if-first-n.false c.in_ok-first.ensures in
    exit_told _ (NoRows c.args.n c.args.first.now c.args.second.now) c.from_residual-in_err-second.result _ _ c.from_residual-in_err-second.ensures.1 (ap sheet.Field f.2)
    (second_breaks c.in_ok-countable.ensures first_row c.if-second-n.false f.1)

pub invariant_of-result-clause-first_row : goal.invariant_of-result-clause-first_row
invariant_of-result-clause-first_row c = inverse_places c.args.n c.args.first.now c.in_ok-first.first c.if-first-n.false c.in_ok-first.ensures

pub invariant_of-result-clause-second_row : goal.invariant_of-result-clause-second_row
invariant_of-result-clause-second_row c = inverse_places c.args.n c.args.second.now c.in_ok-second.second c.if-second-n.false c.in_ok-second.ensures

pub returns : goal.returns
returns c =
    let n = c.args.n in
    let first = c.args.first.now in
    let second = c.args.second.now in
    let one = c.in_ok-first.ensures in
    let two = c.in_ok-second.ensures in
    record {
      count = refl;
      first_row = inverse_row n first c.in_ok-first.first c.if-first-n.false one;
      second_row = inverse_row n second c.in_ok-second.second c.if-second-n.false two;
      each = λ a b d. told_by_places n first second c.in_ok-first.first c.in_ok-second.second c.if-first-n.false c.if-second-n.false one two a b d.a_in d.b_in d.differ;
    }
