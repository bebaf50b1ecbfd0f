-- Forbidden couples: two cells of the group whose order contradicts that of their mates.
use Rattle.std.specs.Prelude.{◌≡◌, ℕ, ◌<◌, ◌≤◌, ◌⊎◌}
use Rattle.book.specs.Order.{LeftOf, AboveOf}
use Rattle.placement.specs.Meaning.{Meaning, Mate}

-- side: x left of y, and x's mate left of y's mate; stack: x above y, and y's mate above x's mate.
-- The two may be one pair. (Cells that lie left or above are different ones.)
pub record Forbidden (m : Meaning) (x y : ℕ) : Type 0 where
  pub mx : ℕ
  pub my : ℕ
  pub x_mate : Mate m x mx
  pub y_mate : Mate m y my
  pub clash : (LeftOf m.order x y × LeftOf m.order mx my) ⊎ (AboveOf m.order x y × AboveOf m.order my mx)

-- no couple is forbidden
abbrev pub Clean : Meaning → Type 0
Clean m = (x y : ℕ) → Forbidden m x y → ⊥

-- the forbidden couple that is told: the lowest x, then the lowest y
pub record First (m : Meaning) (x y : ℕ) : Type 0 where
  pub here : Forbidden m x y
  pub lowest : (u v : ℕ) → Forbidden m u v → (x < u) ⊎ ((x ≡ u) × (y ≤ v))
