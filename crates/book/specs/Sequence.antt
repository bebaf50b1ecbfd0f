-- What a sequence-pair means by the places that it holds, and what turning a row round gives.
use Rattle.std.specs.Prelude.{◌≡◌, ℕ, ◌<◌, List, length, slice_index}
use Rattle.refusal.specs.declared.fault.FieldFault.{FieldFault}
use Rattle.refusal.specs.declared.fault.FieldFault.TheVariants as field
use Rattle.book.specs.declared.sequence_pair.SequencePair.{SequencePair}
use Rattle.book.specs.Order.{Order, most_cells}
use Rattle.book.specs.Counts.{FirstWith}
use Rattle.book.specs.Rows.{Breaks}
use Rattle.book.specs.Places.{by_places}

abbrev pub sequence_order : SequencePair → Order
sequence_order s = record { count = s.count; rel = by_places s.first s.second }

-- each number of the row is a cell of n, and the table has its place
pub record Inverse (n : ℕ) (row places : List ℕ) : Type 0 where
  pub long : length places ≡ most_cells
  pub cells : (j : ℕ) → j < n → slice_index row j < n
  pub back : (j : ℕ) → j < n → slice_index places (slice_index row j) ≡ j

-- the fault names the first number that breaks the row
abbrev pub BreaksAt : ℕ → ℕ → List ℕ → FieldFault → Type 0
BreaksAt n list row f = (i : ℕ) × FirstWith (Breaks n row) i × (f ≡ field.Order 0 list i)
