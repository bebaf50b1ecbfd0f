use Rattle.std.proofs.Common.{ℕ, refl, sym, ◌∙◌, arith, rules}
use Rattle.std.proofs.lemmas.Iterator.{cases_from_all, YieldsList-from_range}
use borrow.Author.Tests.{tests}
use Rattle.group.specs.Group.{sheet_of}
use Rattle.sheet.specs.Alike.{AlikeAt}
use Rattle.sheet.proofs.Telling.{decides_below, alike_decides}
use Rattle.sheet.proofs.sheet.Sheet.alike.Goals as goal

pub returns-then-count-n : goal.returns-then-count-n
returns-then-count-n g c =
    let m = sheet_of (g.B.Book.order c.args.self.now.book) c.args.self.now.group in
    let p = sheet_of (g.C.Book.order c.args.other.now.book) c.args.other.now.group in
    let n = c.count-n.result in
    let P = λ (a : ℕ). AlikeAt m p n a in
    alike_decides m p n c.all.result c.count-n.ensures (sym c.count.ensures ∙ c.if-count-n.true)
    (decides_below P n c.all.result (cases_from_all _ _ _ P (λ a. P a → ⊥) c.all.ensures.ran (YieldsList-from_range 0 n n refl (omega arith)) (λ x q k. search (rules, tests)) (λ x q k. search (rules, tests))))
