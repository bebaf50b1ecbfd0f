use Rattle.std.proofs.Common.{ℕ, ◌+◌, ◌-◌, List, [], ◌∷◌, ◌++◌, map, length, vec_items, sym, refl, ap, ◌∙◌}
use Rattle.refusal.specs.declared.fault.Side.TheVariants.{Width, Height}
use Rattle.formats.specs.Reading.{Columns, columns, one_length}
use Rattle.reading.specs.Held.{rule_of}
use Rattle.reading.proofs.Turns.{both_columns, one_pushed, one_longer, first_fails, second_fails, columns_more, re_read}
use Rattle.reading.proofs.Exits.{refused_by}
use Rattle.reading.proofs.reader.Reader.columns.Goals as goal

pub returns-in_err-first : goal.returns-in_err-first
returns-in_err-first g c =
    let rule = rule_of c.args.allowed in
    let k = g.T.Length.NUMBERS in
    let told = c.in_err-first.ensures in
    let here = re_read (λ (_ : ℕ) (s : List ℕ). one_length rule k c.loop-cell.cell Width s c.loop-cell.self.at) {before = 0} refl c.loop-cell.invariant.0 told.told in
    record {
      same = told.same ∙ c.loop-cell.invariant.0;
      told = refused_by _ _ _ _ c.from_residual.ensures.1 (c.loop-cell.invariant.2 ∙ first_fails rule k c.args.n c.loop-cell.cell (map g.T.Numbered.numbers (vec_items c.loop-cell.firsts)) (map g.T.Numbered.numbers (vec_items c.loop-cell.seconds)) c.args.self.now.bytes.now c.loop-cell.self.at c.loop-cell.invariant.1 _ c.loop-cell-test.true here);
    }

pub returns-in_err-second : goal.returns-in_err-second
returns-in_err-second g c =
    let rule = rule_of c.args.allowed in
    let k = g.T.Length.NUMBERS in
    let first = c.in_ok-first.ensures in
    let told = c.in_err-second.ensures in
    let same = first.same ∙ c.loop-cell.invariant.0 in
    let wide = re_read (λ (_ : ℕ) (s : List ℕ). one_length rule k c.loop-cell.cell Width s c.loop-cell.self.at) {before = 0} refl c.loop-cell.invariant.0 first.told in
    let high = re_read (λ (_ : ℕ) (s : List ℕ). one_length rule k c.loop-cell.cell Height s c.length.new.self.at) {before = 0} refl same told.told in
    record {
      same = told.same ∙ same;
      told = refused_by _ _ _ _ c.from_residual-in_err-second.ensures.1 (c.loop-cell.invariant.2 ∙ second_fails rule k c.args.n c.loop-cell.cell (map g.T.Numbered.numbers (vec_items c.loop-cell.firsts)) (map g.T.Numbered.numbers (vec_items c.loop-cell.seconds)) c.args.self.now.bytes.now c.loop-cell.self.at c.loop-cell.invariant.1 (g.T.Numbered.numbers c.in_ok-first.first) c.length.new.self.at c.loop-cell-test.true wide _ high);
    }

pub loop-cell-preserved : goal.loop-cell-preserved
loop-cell-preserved g c =
    let rule = rule_of c.args.allowed in
    let k = g.T.Length.NUMBERS in
    let numbers = g.T.Numbered.numbers in
    let cell = c.loop-cell.cell in
    let us = map numbers (vec_items c.loop-cell.firsts) in
    let vs = map numbers (vec_items c.loop-cell.seconds) in
    let u = c.in_ok-first.first in
    let v = c.in_ok-second.second in
    let file = c.args.self.now.bytes.now in
    let first = c.in_ok-first.ensures in
    let second = c.in_ok-second.ensures in
    let same = first.same ∙ c.loop-cell.invariant.0 in
    let wide = re_read (λ (_ : ℕ) (s : List ℕ). one_length rule k cell Width s c.loop-cell.self.at) {before = 0} refl c.loop-cell.invariant.0 first.told in
    let high = re_read (λ (_ : ℕ) (s : List ℕ). one_length rule k cell Height s c.length.new.self.at) {before = 0} refl same second.told in
    let firsts = one_pushed numbers (vec_items c.loop-cell.firsts) u (vec_items c.push.new.self) c.in_ok-push.ensures.items in
    let seconds = one_pushed numbers (vec_items c.loop-cell.seconds) v (vec_items c.push-in-loop-cell.new.self) c.in_ok-push-2.ensures.items in (
      second.same ∙ same,
      ap length firsts ∙ one_longer us (numbers u) cell c.loop-cell.invariant.1,
      c.loop-cell.invariant.2
          ∙ columns_more rule k c.args.n cell us vs file c.loop-cell.self.at c.loop-cell.invariant.1 (numbers u) c.length.new.self.at c.loop-cell-test.true wide (numbers v) c.length-in-loop-cell.new.self.at high
          ∙ ap (λ (d : Columns). columns rule k (c.args.n - (cell + 1)) d file c.length-in-loop-cell.new.self.at) (ap (λ (x : List (List ℕ)). both_columns x (vs ++ (numbers v ∷ []))) (sym firsts) ∙ ap (both_columns _) (sym seconds)),
    )
