-- The numbers below a number, and so the cells of a sheet, listed.
use Rattle.std.proofs.Common.{◌≡◌, ℕ, zero, suc, ◌<◌, List, [], ◌∷◌, length, refl, ap, inl, inr, arith}
use Rattle.std.proofs.lemmas.Bool.{cases_eq}
use Rattle.placement.specs.Meaning.{Meaning, Cell}
use Rattle.placement.proofs.Entries.{All, Entry, entry_has}

-- the numbers below n
abbrev pub below : ℕ → List ℕ
below zero = []
below (suc n) = n ∷ below n

pub entry_below : (n a : ℕ) → a < n → Entry a (below n)
entry_below zero a h = absurd (omega arith)
entry_below (suc n) a h = elim (cases_eq n a) [ inl e ↦ inl e | inr ne ↦ inr (entry_below n a (omega arith)) ]

pub length_below : (n : ℕ) → length (below n) ≡ n
length_below zero = refl
length_below (suc n) = ap suc (length_below n)

-- what holds of each number below n, from the highest down to 0, holds of all
pub each_below : (P : ℕ → Type 0) (n : ℕ) → All P (below n) → (a : ℕ) → a < n → P a
each_below P n h a low = entry_has P (below n) a h (entry_below n a low)

abbrev pub cells : Meaning → List ℕ
cells m = below m.order.count

pub entry_cells : (m : Meaning) (a : ℕ) → Cell m a → Entry a (cells m)
entry_cells m a h = entry_below m.order.count a h

pub length_cells : (m : Meaning) → length (cells m) ≡ m.order.count
length_cells m = length_below m.order.count
