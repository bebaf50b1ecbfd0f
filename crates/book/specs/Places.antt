-- A row the other way round: the place of each cell.
use Rattle.std.specs.Prelude.{◌≡◌, ℕ, ◌<◌, cond, List, length, nat_lt, slice_index}
use Rattle.book.specs.declared.relation.Relation.{Relation}
use Rattle.book.specs.Order.{most_cells}
use Rattle.book.specs.declared.relation.Relation.TheVariants.{Left, Right, Above, Below}

-- each of n cells has a place below n
abbrev pub Within : ℕ → List ℕ → Type 0
Within n places = (a : ℕ) → a < n → slice_index places a < n

-- and no two the same. (One premise: a ghost field takes only so many arrows.)
abbrev pub Once : ℕ → List ℕ → Type 0
Once n places = (a b : ℕ) → (a < n) × (b < n) × (slice_index places a ≡ slice_index places b) → a ≡ b

-- a row of n cells the other way round, in a table with room for the most cells
pub record Places (n : ℕ) (places : List ℕ) : Type 0 where
  pub long : length places ≡ most_cells
  pub within : Within n places
  pub once : Once n places

-- how a cell at the places p and q lies to one at the places r and s
abbrev pub compared : ℕ → ℕ → ℕ → ℕ → Relation
compared p q r s = cond (nat_lt p r) (cond (nat_lt q s) Left Above) (cond (nat_lt q s) Below Right)

-- how a lies to b, by the tables of their places in two rows
abbrev pub by_places : List ℕ → List ℕ → ℕ → ℕ → Relation
by_places first second a b = compared (slice_index first a) (slice_index second a) (slice_index first b) (slice_index second b)
