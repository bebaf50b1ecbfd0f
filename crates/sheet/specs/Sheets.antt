-- Sheets that mean the same, and when a sheet is sound.
use Rattle.std.specs.Prelude.{◌≡◌, ℕ}
use Rattle.book.specs.Order.{Order, SameOrder}
use Rattle.placement.specs.Meaning.{Meaning, Cell}
use Rattle.placement.specs.Couples.{Clean}
use Rattle.group.specs.declared.table.Group.{Group}
use Rattle.group.specs.Group.{sheet_of}

-- p means what m means: the same order, and the same mate of every cell
pub record SameSheet (m p : Meaning) : Type 0 where
  pub order : SameOrder m.order p.order
  pub mate : (a : ℕ) → Cell m a → p.mate a ≡ m.mate a

-- a sound sheet: the group is over the book's cells, and no couple is forbidden
pub record Sound (o : Order) (g : Group) : Type 0 where
  pub counts : g.count ≡ o.count
  pub clean : Clean (sheet_of o g)
