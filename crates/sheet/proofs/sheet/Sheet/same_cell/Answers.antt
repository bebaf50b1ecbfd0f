use Rattle.std.proofs.Common.{ℕ, refl, sym, ◌∙◌, arith, rules}
use Rattle.std.proofs.lemmas.Bool.Decides.{Decides-like}
use Rattle.std.proofs.lemmas.Iterator.{cases_from_all, YieldsList-from_range}
use borrow.Author.Tests.{tests}
use denote.Enum.Bare.{same_true}
use Rattle.sheet.specs.contracts.state.State.{the_type}
use Rattle.sheet.specs.Alike.{AgreeOn}
use Rattle.sheet.proofs.Telling.{decides_below}
use Rattle.sheet.proofs.sheet.Sheet.same_cell.Goals as goal

pub returns-then-eq : goal.returns-then-eq
returns-then-eq g c =
    let n = c.args.n in
    let P = λ (b : ℕ). AgreeOn (g.B.Book.order c.args.self.now.book) (g.C.Book.order c.args.other.now.book) c.args.a b in
    let e = same_true the_type (search rules) c.state.result c.state-2.result (sym c.if-eq.ensures) in
    Decides-like c.all.result
    (λ each. record { states = sym c.state.ensures ∙ e ∙ c.state-2.ensures; each = each })
    (λ like. like.each)
    (decides_below P n c.all.result (cases_from_all _ _ _ P (λ b. P b → ⊥) c.all.ensures.ran (YieldsList-from_range 0 n n refl (omega arith)) (λ x q k. search (rules, tests)) (λ x q k. search (rules, tests))))
