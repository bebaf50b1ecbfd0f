-- Mates: there is one at most, and no free cell has one. The cells of the group, with their order as it is and as their
-- mates mirror it: where the two are opposite, a couple is forbidden.
use Rattle.std.proofs.Common.{◌≡◌, ℕ, Bool, true, false, ◌⊎◌, Some, None, Option, sym, refl, ap, ◌∙◌, inl, inr, arith}
use mathlib.Core.Bool.{Bool-set}
use mathlib.Core.HLevel.{Σ_prop_path, ×_prop}
use native.Mathlib.Bridge.{le_prop}
use native.Mathlib.Decide.{ℕ_discrete}
use Rattle.book.specs.Order.{LeftOf, AboveOf, Lie, left, right, above, below}
use Rattle.placement.specs.Meaning.{Meaning, Cell, Mate, Free, Lawful}
use Rattle.placement.specs.Theorems.{Unclean}
use Rattle.book.specs.Orders.{left_not_above, left_not_below, left_turns_not, above_turns_not, left_trans, above_trans}
use Rattle.placement.proofs.FourPoints.{Case, same, P_ahead, P_behind, Q_ahead, Q_behind, TwoOrders, mirror}

pub mate_only : {m : Meaning} {a b c : ℕ} → Mate m a b → Mate m a c → b ≡ c
mate_only {m} {a} {b} {c} h k =
    let p : m.mate a ≡ Some b = h.told in
    let q : m.mate a ≡ Some c = k.told in
    cc

pub mate_not_free : {m : Meaning} {a b : ℕ} → Mate m a b → Free m a → ⊥
mate_not_free {m} {a} {b} h k =
    let p : m.mate a ≡ Some b = h.told in
    let q : m.mate a ≡ None = k.told in
    let z : ◌≡◌ {A = ℕ} 0 1 = cc in
    omega arith

pub grouped_or_free : (m : Meaning) (a : ℕ) → Cell m a → ((b : ℕ) × Mate m a b) ⊎ Free m a
grouped_or_free m a h = go (m.mate a) refl
  where
    go : (told : Option ℕ) → m.mate a ≡ told → ((b : ℕ) × Mate m a b) ⊎ Free m a
    go (Some b) e = inl (b, record { cell = h; told = e })
    go None e = inr (record { cell = h; told = e })

-- The cells of the group

abbrev has_mate : Option ℕ → Bool
has_mate (Some b) = true
has_mate None = false

abbrev pub Grouped : Meaning → ℕ → Type 0
Grouped m a = Cell m a × (has_mate (m.mate a) ≡ true)

abbrev pub Member : Meaning → Type 0
Member m = (a : ℕ) × Grouped m a

abbrev pub member : {m : Meaning} {a b : ℕ} → Mate m a b → Member m
member {m} {a} h = (a, (h.cell, ap has_mate h.told))

pub mate_of : (m : Meaning) (u : Member m) → (b : ℕ) × Mate m u.0 b
mate_of m u = go (m.mate u.0) refl u.1.1
  where
    go : (told : Option ℕ) → m.mate u.0 ≡ told → has_mate told ≡ true → (b : ℕ) × Mate m u.0 b
    go (Some b) e h = (b, record { cell = u.1.0; told = e })
    go None e h = let z : ◌≡◌ {A = ℕ} 0 1 = cc in absurd (omega arith)

grouped_prop : (m : Meaning) (a : ℕ) → IsProp (Grouped m a)
grouped_prop m a = ×_prop le_prop (Bool-set (has_mate (m.mate a)) true)

member_same : (m : Meaning) (u v : Member m) → u.0 ≡ v.0 → u ≡ v
member_same m u v e = Σ_prop_path (grouped_prop m) e

module _ {m : Meaning} (lawful : Lawful m) where
  pub other : Member m → Member m
  other u = member (lawful.both_ways u.0 (mate_of m u).0 (mate_of m u).1)

  abbrev pub Above : Member m → Member m → Type 0
  Above u v = AboveOf m.order u.0 v.0

  abbrev pub Left : Member m → Member m → Type 0
  Left u v = LeftOf m.order u.0 v.0

  -- as the mates mirror them
  abbrev pub Above' : Member m → Member m → Type 0
  Above' u v = Above (other u) (other v)

  abbrev pub Left' : Member m → Member m → Type 0
  Left' u v = Left (other v) (other u)

  pub other_mate : (u : Member m) → Mate m u.0 (other u).0
  unfolding other
  other_mate u = (mate_of m u).1

  pub other_other : (u : Member m) → other (other u) ≡ u
  other_other u = member_same m (other (other u)) u (mate_only (other_mate (other u)) (lawful.both_ways _ _ (other_mate u)))

  other_injective : (u v : Member m) → other u ≡ other v → u ≡ v
  other_injective u v e = sym (other_other u) ∙ (ap other e ∙ other_other v)

  case_of_lie : (u v : Member m) → Lie m.order u.0 v.0 → Case Above Left u v
  case_of_lie u v (left h) = Q_ahead h
  case_of_lie u v (right h) = Q_behind h
  case_of_lie u v (above h) = P_ahead h
  case_of_lie u v (below h) = P_behind h

  pub above_left : TwoOrders Above Left
  above_left =
      record {
        cases = λ u v.
            elim (ℕ_discrete u.0 v.0) [
              | yes e ↦ same (member_same m u v e)
              | no ne ↦ case_of_lie u v (lawful.laws.total u.0 v.0 (record { a_in = u.1.0; b_in = v.1.0; differ = ne }))
            ];
        P_trans = λ h k. above_trans lawful.laws h k;
        Q_trans = λ h k. left_trans lawful.laws h k;
        P_anti = λ h k. above_turns_not lawful.laws h k;
        Q_anti = λ h k. left_turns_not lawful.laws h k;
        P_not_Q = λ h k. left_not_above k h;
        P_not_turned_Q = λ h k. left_not_below lawful.laws k h;
      }

  pub mirrored_above_left : TwoOrders Above' Left'
  mirrored_above_left = mirror above_left other other_injective

  pub stack_couple : (u v : Member m) → Above u v → Above' v u → Unclean m
  stack_couple u v p q =
      (u.0, v.0, record { mx = (other u).0; my = (other v).0; x_mate = other_mate u; y_mate = other_mate v; clash = inr (p, q) })

  pub side_couple : (u v : Member m) → Left u v → Left' v u → Unclean m
  side_couple u v p q =
      (u.0, v.0, record { mx = (other u).0; my = (other v).0; x_mate = other_mate u; y_mate = other_mate v; clash = inl (p, q) })
