-- Which cells are rounded up: those right of one that is; of a pair on a clean sheet its right member and not its left.
use Rattle.std.proofs.Common.{◌≡◌, ℕ, subst, inl, inr}
use native.Mathlib.Decide.{ℕ_discrete}
use Rattle.book.specs.Order.{LeftOf, Lie, left, right, above, below}
use Rattle.placement.specs.Meaning.{Meaning, Mate, Lawful}
use Rattle.placement.specs.Couples.{Clean}
use Rattle.placement.specs.Rule.{RoundsUp}
use Rattle.book.specs.Orders.{left_turns_not, left_trans}
use Rattle.placement.proofs.Mates.{mate_only}

pub rounds_up_rightward : {m : Meaning} {a b : ℕ} → Lawful m → LeftOf m.order a b → RoundsUp m a → RoundsUp m b
rounds_up_rightward {m} {a} lawful left_ab (inl member) = inr (a, member, left_ab)
rounds_up_rightward lawful left_ab (inr (c, member, left_ca)) = inr (c, member, left_trans lawful.laws left_ca left_ab)

pub right_rounds_up : {m : Meaning} {a b : ℕ} → Mate m b a → LeftOf m.order a b → RoundsUp m b
right_rounds_up {m} {a} mate left_ab = inl (a, mate, left_ab)

-- a right member left of a left member would be a couple whose mates stand the same way round
pub left_rounds_down : {m : Meaning} {a b : ℕ} → Lawful m → Clean m → Mate m a b → LeftOf m.order a b → RoundsUp m a → ⊥
left_rounds_down {m} {a} lawful clean mate left_ab (inl (c, other, left_ca)) =
    left_turns_not lawful.laws left_ab (subst (λ (u : ℕ). LeftOf m.order u a) (mate_only other mate) left_ca)
left_rounds_down {m} {a} {b} lawful clean mate left_ab (inr (c, (d, other, left_dc), left_ca)) =
    let order = lawful.laws in
    let left_db : LeftOf m.order d b = left_trans order left_dc (left_trans order left_ca left_ab) in
    clean c a (record { mx = d; my = b; x_mate = other; y_mate = mate; clash = inl (left_ca, left_db) })

-- how the two of a pair, or a centred cell and itself, lie on a clean sheet
pub data Mirror (m : Meaning) (a b : ℕ) : Type 0 where
  centred : a ≡ b → Mirror m a b
  left_right : LeftOf m.order a b → Mirror m a b
  right_left : LeftOf m.order b a → Mirror m a b

pub mates_side_by_side : {m : Meaning} (a b : ℕ) → Lawful m → Clean m → Mate m a b → Mirror m a b
mates_side_by_side {m} a b lawful clean mate =
    elim (ℕ_discrete a b) [
      | yes e ↦ centred e
      | no ne ↦ lie (lawful.laws.total a b (record { a_in = mate.cell; b_in = back.cell; differ = ne }))
    ]
  where
    back : Mate m b a
    back = lawful.both_ways a b mate

    lie : Lie m.order a b → Mirror m a b
    lie (left h) = left_right h
    lie (right h) = right_left h
    lie (above h) = absurd (clean a b (record { mx = b; my = a; x_mate = mate; y_mate = back; clash = inr (h, h) }))
    lie (below h) = absurd (clean b a (record { mx = a; my = b; x_mate = back; y_mate = mate; clash = inr (h, h) }))
