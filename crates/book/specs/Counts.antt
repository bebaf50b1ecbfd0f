-- What every filling of a book checks first: the number of cells and the lengths of the lists.
use Rattle.std.specs.Prelude.{◌≡◌, ℕ, ◌<◌, ◌≤◌}
use Rattle.refusal.specs.declared.fault.FieldFault.TheVariants as field
use Rattle.refusal.specs.declared.fault.SheetFault.{SheetFault}
use Rattle.refusal.specs.declared.fault.SheetFault.TheVariants as sheet
use Rattle.book.specs.Order.{most_cells}

-- a book can have n cells
abbrev pub Countable : ℕ → Type 0
Countable n = (1 ≤ n) × (n ≤ most_cells)

-- no book can have n cells, and the fault says so
pub record BadCount (n : ℕ) (f : SheetFault) : Type 0 where
  pub out : Countable n → ⊥
  pub told : f ≡ sheet.Field (field.CellCount 0 n)

-- i is the first number of which P holds
pub record FirstWith (P : ℕ → Type 0) (i : ℕ) : Type 0 where
  pub here : P i
  pub before : (j : ℕ) → j < i → P j → ⊥
