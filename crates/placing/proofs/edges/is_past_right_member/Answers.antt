use Rattle.std.proofs.Common.{ℕ, refl, arith, rules}
use Rattle.std.proofs.lemmas.Iterator.{YieldsList-from_range, cases_from_any}
use Rattle.book.specs.Order.{LeftOf}
use Rattle.placement.specs.Rule.{RightMember}
use Rattle.group.specs.Arranged.{meaning_of}
use Rattle.placing.proofs.AnyCell.{any_cell}
use Rattle.placing.proofs.edges.is_past_right_member.Goals as goal

pub returns : goal.returns
returns g c =
    let m = meaning_of c.args.cells.now in
    let P : ℕ → Type 0 = λ d. RightMember m d × LeftOf m.order d c.args.a in
    let n = c.count.result in
    let told = any_cell n P c.any.result
    (cases_from_any _ _ _ P (λ d. P d → ⊥) c.any.ensures.ran (YieldsList-from_range 0 n n refl (omega arith)) (λ d q h. search rules) (λ d q h. search rules))
    (λ d p. omega (arith, p.1.apart.a_in, c.count.ensures))
    in
    (λ yes. let w = told.0 yes in (w.0, w.1.0, w.1.1), λ w. told.1 (w.0, (w.1, w.2)))
