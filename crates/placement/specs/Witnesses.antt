-- Sheets that show that the theorems on loops speak of something: one with a loop downward, and one with a loop across.
use Rattle.std.specs.Prelude.{ℕ, cond, [], ◌∷◌, Some, None, nat_lt, slice_index_or}
use Rattle.book.specs.declared.relation.Relation.{Relation}
use Rattle.book.specs.declared.relation.Relation.TheVariants.{Left, Above}
use Rattle.book.specs.Order.{Order, opposite}
use Rattle.placement.specs.Walks.{Loop}
use Rattle.placement.specs.Meaning.{Meaning, Lawful}
use Rattle.placement.specs.Couples.{Forbidden}
use Rattle.placement.specs.Downward.{Under}
use Rattle.placement.specs.Across.{cell, image, Precedes}

-- n cells in one line: a cell of lower rank lies at the side s of one of higher rank
abbrev pub line : Relation → (ℕ → ℕ) → ℕ → Order
line s rank n = record { count = n; rel = λ a b. cond (nat_lt (rank a) (rank b)) s (opposite s) }

-- each cell above the next; 0 and 2 are a pair, 1 is free
abbrev pub stack_of_three : Meaning
stack_of_three = record {
  order = line Above (λ a. a) 3;
  mate = λ a. slice_index_or (Some 2 ∷ None ∷ Some 0 ∷ []) a None;
}

-- 1 is below 2's mate, and 2 below 1
pub record StackOfThreeLoops : Type 0 where
  pub lawful : Lawful stack_of_three
  pub round : Loop (Under stack_of_three) (2 ∷ 1 ∷ [])
  pub couple : Forbidden stack_of_three 0 2

-- each cell left of the next; 0 and 3 are a pair, 2 and 4 are a pair, 1 is free
abbrev pub row_of_five : Meaning
row_of_five = record {
  order = line Left (λ a. a) 5;
  mate = λ a. slice_index_or (Some 3 ∷ None ∷ Some 4 ∷ Some 0 ∷ Some 2 ∷ []) a None;
}

-- 0, 1, 2 follow one another, so their images follow the other way: 4, the image of 1, then 3; but 3 is left of 4
pub record RowOfFiveLoops : Type 0 where
  pub lawful : Lawful row_of_five
  pub round : Loop (Precedes row_of_five) (cell 4 ∷ image 1 ∷ cell 3 ∷ [])
  pub couple : Forbidden row_of_five 0 2
