use Rattle.std.proofs.Common.{ℕ, ◌+◌, ◌-◌, ◌<◌, List, length, take, sym, refl, ap, ◌∙◌, arith}
use Rattle.std.proofs.lemmas.List.{take_more_set, length-set}
use Rattle.formats.specs.Reading.{list, alone, not_a_size, length_number_at}
use Rattle.reading.specs.Held.{rule_of}
use Rattle.reading.proofs.Turns.{list_more, list_fails, re_read}
use Rattle.book.proofs.Exits.{exit_with}
use Rattle.reading.proofs.reader.Reader.length.Goals as goal

pub returns-in_err-number : goal.returns-in_err-number
returns-in_err-number g c =
    let rule = rule_of c.args.allowed in
    let cell = c.args.cell in
    let side = c.args.side in
    let l = c.loop-number in
    let came = c.in_err-number.ensures in
    let here = re_read (λ (_ : ℕ) (s : List ℕ). length_number_at rule cell side s l.self.at) {before = 0} refl l.invariant.same came.told in
    let more : l.number-index < g.T.Length.NUMBERS = omega (arith, l.invariant.long) in
    record {
      same = came.same ∙ l.invariant.same;
      told = exit_with _ _ _ _ c.from_residual.ensures.1 (l.invariant.left ∙ list_fails (alone rule) (not_a_size cell side) g.T.Length.NUMBERS l.number-index (take l.number-index l.number-items) c.args.self.now.bytes.now l.self.at _ more here);
    }

pub loop-number-preserved : goal.loop-number-preserved
loop-number-preserved g c =
    let rule = rule_of c.args.allowed in
    let cell = c.args.cell in
    let side = c.args.side in
    let l = c.loop-number in
    let i = l.number-index in
    let ns = l.number-items in
    let v = c.in_ok-number.field-0 in
    let file = c.args.self.now.bytes.now in
    let came = c.in_ok-number.ensures in
    let here = re_read (λ (_ : ℕ) (s : List ℕ). length_number_at rule cell side s l.self.at) {before = 0} refl l.invariant.same came.told in
    let more : i < g.T.Length.NUMBERS = omega (arith, l.invariant.long) in
    let inside : i < length ns = omega (arith, l.invariant.long) in
    record {
      same = came.same ∙ l.invariant.same;
      long = length-set ns i v ∙ l.invariant.long;
      left =
          l.invariant.left
          ∙ list_more (alone rule) (not_a_size cell side) g.T.Length.NUMBERS i (take i ns) file l.self.at v _ more here
          ∙ ap (λ (xs : List ℕ). list (alone rule) (not_a_size cell side) (g.T.Length.NUMBERS - (i + 1)) xs file c.length_number.new.self.at) (sym (take_more_set ns i v inside));
    }
