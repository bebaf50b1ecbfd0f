-- The sequence-pair: what two rows say of two cells, which rows are lawful, and why a filling is refused.
use Rattle.std.specs.Prelude.{◌≡◌, ℕ, ◌<◌, ◌≤◌, ◌≢◌, ◌⊎◌, List, length, slice_index, slice_index_or}
use Rattle.refusal.specs.declared.fault.FieldFault.TheVariants as field
use Rattle.refusal.specs.declared.fault.SheetFault.{SheetFault}
use Rattle.refusal.specs.declared.fault.SheetFault.TheVariants as sheet
use Rattle.book.specs.declared.relation.Relation.{Relation}
use Rattle.book.specs.declared.relation.Relation.TheVariants.{Left, Right, Above, Below}
use Rattle.book.specs.Order.{Order, Apart}
use Rattle.book.specs.Counts.{Countable, FirstWith}

-- a comes earlier in the row than b
pub record Earlier (row : List ℕ) (a b : ℕ) : Type 0 where
  pub i : ℕ
  pub j : ℕ
  pub ahead : i < j
  pub inside : j < length row
  pub here : slice_index_or row i 0 ≡ a
  pub there : slice_index_or row j 0 ≡ b

-- how a lies to b: left when it comes earlier in both rows, above when earlier in the first and later in the second
pub data Told (first second : List ℕ) (a b : ℕ) : Relation → Type 0 where
  left : Earlier first a b → Earlier second a b → Told first second a b Left
  right : Earlier first b a → Earlier second b a → Told first second a b Right
  above : Earlier first a b → Earlier second b a → Told first second a b Above
  below : Earlier first b a → Earlier second a b → Told first second a b Below

-- the number at place i of the row is no cell of n, or stands at an earlier place too
abbrev pub Breaks : ℕ → List ℕ → ℕ → Type 0
Breaks n row i = (i < length row) × ((n ≤ slice_index row i) ⊎ ((j : ℕ) × (j < i) × (slice_index row j ≡ slice_index row i)))

-- the row has each of n cells once
pub record Row (n : ℕ) (row : List ℕ) : Type 0 where
  pub long : length row ≡ n
  pub whole : (i : ℕ) → Breaks n row i → ⊥

-- the order of n cells that the two rows mean
pub record Rows (n : ℕ) (first second : List ℕ) (o : Order) : Type 0 where
  pub count : o.count ≡ n
  pub first_row : Row n first
  pub second_row : Row n second
  pub each : (a b : ℕ) → Apart o a b → Told first second a b (o.rel a b)

-- why n and two rows make no book: the count first, then the lengths, then the first number that breaks a row
pub data NoRows (n : ℕ) (first second : List ℕ) : SheetFault → Type 0 where
  bad_count : (Countable n → ⊥) → NoRows n first second (sheet.Field (field.CellCount 0 n))
  first_length : Countable n → length first ≢ n → NoRows n first second (sheet.ListLength 1)
  second_length : Countable n → length first ≡ n → length second ≢ n → NoRows n first second (sheet.ListLength 2)
  first_breaks : {i : ℕ} → Countable n → length first ≡ n → length second ≡ n
      → FirstWith (Breaks n first) i → NoRows n first second (sheet.Field (field.Order 0 1 i))
  second_breaks : {i : ℕ} → Countable n → Row n first → length second ≡ n
      → FirstWith (Breaks n second) i → NoRows n first second (sheet.Field (field.Order 0 2 i))
