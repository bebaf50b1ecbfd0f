-- What a sheet means: the order of its cells, and which of them mirror each other about the axis.
use Rattle.std.specs.Prelude.{◌≡◌, ℕ, ◌<◌, Some, None, Option}
use Rattle.book.specs.Order.{Order, Laws}

-- an order, and for each cell its mate, or none for a free cell
pub record Meaning : Type 0 where
  pub order : Order
  pub mate : ℕ → Option ℕ

-- a is a cell of the sheet
abbrev pub Cell : Meaning → ℕ → Type 0
Cell m a = a < m.order.count

-- b is a's mate: the other of its pair, or a itself where a is centred
pub record Mate (m : Meaning) (a b : ℕ) : Type 0 where
  pub cell : Cell m a
  pub told : m.mate a ≡ Some b

-- a is in no pair and not centred
pub record Free (m : Meaning) (a : ℕ) : Type 0 where
  pub cell : Cell m a
  pub told : m.mate a ≡ None

-- a lawful sheet: the order keeps the laws of books, and mates are mates of each other
pub record Lawful (m : Meaning) : Type 0 where
  pub laws : Laws m.order
  pub both_ways : (a b : ℕ) → Mate m a b → Mate m b a
