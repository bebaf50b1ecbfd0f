-- Whether a cell is rounded up is decided: its mate is told, left is decided, and there are finitely many cells.
use Rattle.std.proofs.Common.{ℕ, zero, suc, ◌<◌, ◌⊎◌, subst, inl, inr, arith}
use native.Mathlib.Decide.{dec_lt}
use Rattle.std.proofs.lemmas.Bool.{cases_eq}
use Rattle.book.specs.Order.{LeftOf}
use Rattle.placement.specs.Meaning.{Meaning, Mate, Free, Lawful}
use Rattle.placement.specs.Rule.{RightMember, RoundsUp}
use Rattle.book.specs.Orders.{left?}
use Rattle.placement.proofs.Mates.{mate_only, mate_not_free, grouped_or_free}

-- whether something decided holds of a number below n
pub some_below? : {P : ℕ → Type 0} → ((c : ℕ) → Dec (P c)) → (n : ℕ) → Dec ((c : ℕ) × (c < n) × P c)
some_below? decide zero = no (λ found. let low : found.0 < 0 = found.1 in omega arith)
some_below? {P} decide (suc n) = go (decide n) (some_below? decide n)
  where
    go : Dec (P n) → Dec ((c : ℕ) × (c < n) × P c) → Dec ((c : ℕ) × (c < suc n) × P c)
    go (yes here) _ = yes (n, omega arith, here)
    go (no not_here) (yes found) = yes (found.0, (let low : found.0 < n = found.1 in omega arith), found.2)
    go (no not_here) (no nowhere) =
        no (λ found. elim (cases_eq found.0 n) [
          | inl e ↦ not_here (subst P e found.2)
          | inr ne ↦ nowhere (found.0, (let low : found.0 < suc n = found.1 in omega arith), found.2)
        ])

module _ {m : Meaning} (lawful : Lawful m) where
  right_member_of : (a : ℕ) → ((b : ℕ) × Mate m a b) ⊎ Free m a → Dec (RightMember m a)
  right_member_of a (inr free) = no (λ right. mate_not_free right.1 free)
  right_member_of a (inl (b, mate)) =
      elim (left? lawful.laws b a) [
        | yes h ↦ yes (b, mate, h)
        | no not_left ↦ no (λ right. not_left (subst (λ (c : ℕ). LeftOf m.order c a) (mate_only right.1 mate) right.2))
      ]

  pub right_member? : (a : ℕ) → Dec (RightMember m a)
  right_member? a =
      elim (dec_lt a m.order.count) [
        | yes here ↦ right_member_of a (grouped_or_free m a here)
        | no outside ↦ no (λ right. outside right.1.cell)
      ]

  pub rounds_up? : (a : ℕ) → Dec (RoundsUp m a)
  rounds_up? a = go (right_member? a) (some_below? right_and_left? m.order.count)
    where
      right_and_left? : (c : ℕ) → Dec (RightMember m c × LeftOf m.order c a)
      right_and_left? c =
          elim (right_member? c) [
            | no not_right ↦ no (λ h. not_right h.0)
            | yes right ↦ elim (left? lawful.laws c a) [ yes h ↦ yes (right, h) | no not_left ↦ no (λ h. not_left h.1) ]
          ]

      go : Dec (RightMember m a) → Dec ((c : ℕ) × (c < m.order.count) × (RightMember m c × LeftOf m.order c a)) → Dec (RoundsUp m a)
      go (yes right) _ = yes (inl right)
      go (no not_right) (yes found) = yes (inr (found.0, found.2.0, found.2.1))
      go (no not_right) (no nowhere) =
          no (λ up. elim up [
            | inl right ↦ not_right right
            | inr (c, right, h) ↦ nowhere (c, h.apart.a_in, (right, h))
          ])
