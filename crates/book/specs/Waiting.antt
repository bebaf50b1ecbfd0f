-- What is held while an expression is read: the waiting parts as the two rows that they amount to.
use Rattle.std.specs.Prelude.{◌≡◌, ℕ, ◌+◌, ◌-◌, ◌<◌, ◌≤◌, List, [], ◌∷◌, ◌++◌, length, slice_index, slice_index_or}
use Rattle.arrayvec.specs.ArrayVec.{array_vec_len}
use Rattle.refusal.specs.declared.fault.FieldFault.{FieldFault}
use Rattle.refusal.specs.declared.fault.FieldFault.TheVariants as field
use Rattle.book.specs.declared.slicing.Waiting.{Waiting}
use Rattle.book.specs.Order.{most_cells}
use Rattle.book.specs.Counts.{FirstWith}
use Rattle.book.specs.Rows as rows
use Rattle.book.specs.Rows.{Row}
use Rattle.book.specs.Slicing.{Part, cell, beside, stacked, leaves, Reads, Breaks}

-- the cells of a part in the first row: of two stacked parts the later comes first there
abbrev pub upper : Part → List ℕ
upper (cell k) = k ∷ []
upper (beside p q) = upper p ++ upper q
upper (stacked p q) = upper q ++ upper p

-- the rows of waiting parts (the latest first) one after the other, the earliest first
abbrev pub in_row : (Part → List ℕ) → List Part → List ℕ
in_row row [] = []
in_row row (p ∷ ps) = in_row row ps ++ row p

-- where each waiting part begins
abbrev pub begins : List Part → List ℕ
begins [] = []
begins (p ∷ ps) = begins ps ++ (length (in_row leaves ps) ∷ [])

-- w has the rows of these waiting parts
pub record Holds (ps : List Part) (w : Waiting) : Type 0 where
  pub starts : w.starts.items ≡ begins ps
  pub first : w.first.items ≡ in_row upper ps
  pub second : w.second.items ≡ in_row leaves ps

-- there is room for one part more, and for one cell more in each row
pub record Roomy (w : Waiting) : Type 0 where
  pub starts : array_vec_len w.starts < most_cells
  pub first : array_vec_len w.first < most_cells
  pub second : array_vec_len w.second < most_cells

-- two parts wait at least, and the last two begin in order within the first row
pub record Stackable (w : Waiting) : Type 0 where
  pub two : 2 ≤ array_vec_len w.starts
  pub ascend : slice_index_or w.starts.items (array_vec_len w.starts - 2) 0 ≤ slice_index w.starts.items (array_vec_len w.starts - 1)
  pub inside : slice_index_or w.starts.items (array_vec_len w.starts - 1) 0 ≤ array_vec_len w.first

-- the parts have cells of n only, and each in one place only
abbrev pub Once : ℕ → List Part → Type 0
Once n ps = (i : ℕ) → rows.Breaks n (in_row leaves ps) i → ⊥

-- why the number k cannot be read: no cell and no join, or a cell that came already, or a join of fewer than two parts
pub data Unread (n k : ℕ) (ps : List Part) : Type 0 where
  unknown : n + 1 < k → Unread n k ps
  again : (i : ℕ) → i < length (in_row leaves ps) → slice_index (in_row leaves ps) i ≡ k → Unread n k ps
  alone : n ≤ k → length ps < 2 → Unread n k ps

-- the whole expression is read, and one part is left, which has each of n cells once
pub record Whole (n : ℕ) (expr : List ℕ) (w : Waiting) : Type 0 where
  pub part : Part
  pub read : Reads n expr [] (part ∷ [])
  pub row : Row n (leaves part)
  pub first : w.first.items ≡ upper part
  pub second : w.second.items ≡ leaves part

-- the fault names the first number that breaks the expression
abbrev pub BreaksAt : ℕ → List ℕ → FieldFault → Type 0
BreaksAt n expr f = (i : ℕ) × FirstWith (Breaks n expr) i × (f ≡ field.Order 0 1 i)
