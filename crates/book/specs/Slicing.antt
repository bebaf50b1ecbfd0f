-- The slicing book: the parts that an expression builds, what they say of two cells, and why a filling is refused.
use Rattle.std.specs.Prelude.{◌≡◌, ℕ, ◌+◌, ◌*◌, ◌<◌, ◌≤◌, ◌≢◌, ◌⊎◌, List, [], ◌∷◌, ◌++◌, length, take, slice_index, slice_index_or}
use Rattle.refusal.specs.declared.fault.FieldFault.TheVariants as field
use Rattle.refusal.specs.declared.fault.SheetFault.{SheetFault}
use Rattle.refusal.specs.declared.fault.SheetFault.TheVariants as sheet
use Rattle.book.specs.declared.relation.Relation.{Relation}
use Rattle.book.specs.declared.relation.Relation.TheVariants.{Left, Right, Above, Below}
use Rattle.book.specs.Order.{Order, Apart, LeftOf, AboveOf, Laws}
use Rattle.book.specs.Counts.{Countable, FirstWith}
use Rattle.book.specs.Rows.{Row}

-- a cell, or an earlier and a later part joined: side by side, the earlier one left, or stacked, the later one above
pub data Part : Type 0 where
  cell : ℕ → Part
  beside : Part → Part → Part
  stacked : Part → Part → Part

-- what reading the number k of an expression over n cells makes of the parts that wait, the latest first
pub data Read (n k : ℕ) : List Part → List Part → Type 0 where
  waits : {ps : List Part} → k < n → Read n k ps (cell k ∷ ps)
  joins : {p q : Part} {ps : List Part} → k ≡ n → Read n k (q ∷ p ∷ ps) (beside p q ∷ ps)
  stacks : {p q : Part} {ps : List Part} → k ≡ n + 1 → Read n k (q ∷ p ∷ ps) (stacked p q ∷ ps)

-- numbers read one after the other
pub data Reads (n : ℕ) : List ℕ → List Part → List Part → Type 0 where
  none : {ps : List Part} → Reads n [] ps ps
  more : {k : ℕ} {ks : List ℕ} {ps qs rs : List Part} → Read n k ps qs → Reads n ks qs rs → Reads n (k ∷ ks) ps rs

-- the cells of a part in the order of the expression
abbrev pub leaves : Part → List ℕ
leaves (cell k) = k ∷ []
leaves (beside p q) = leaves p ++ leaves q
leaves (stacked p q) = leaves p ++ leaves q

-- a is a cell of the part
abbrev pub In : ℕ → Part → Type 0
In a (cell k) = a ≡ k
In a (beside p q) = In a p ⊎ In a q
In a (stacked p q) = In a p ⊎ In a q

-- the part itself, or a part of one of the two that it joins
pub data PartOf (s : Part) : Part → Type 0 where
  itself : PartOf s s
  beside_earlier : {p q : Part} → PartOf s p → PartOf s (beside p q)
  beside_later : {p q : Part} → PartOf s q → PartOf s (beside p q)
  stacked_earlier : {p q : Part} → PartOf s p → PartOf s (stacked p q)
  stacked_later : {p q : Part} → PartOf s q → PartOf s (stacked p q)

-- how a lies to b, by the join inside the part that has one of them in its earlier and one in its later part
pub data Tells (whole : Part) (a b : ℕ) : Relation → Type 0 where
  left : {p q : Part} → PartOf (beside p q) whole → In a p → In b q → Tells whole a b Left
  right : {p q : Part} → PartOf (beside p q) whole → In b p → In a q → Tells whole a b Right
  above : {p q : Part} → PartOf (stacked p q) whole → In b p → In a q → Tells whole a b Above
  below : {p q : Part} → PartOf (stacked p q) whole → In a p → In b q → Tells whole a b Below

-- what is wrong with the number at place i: it is no cell and no join, or a cell that stands at an earlier place too,
-- or a join, but the numbers before it leave fewer than two parts
pub data Wrong (n : ℕ) (expr : List ℕ) (i : ℕ) : Type 0 where
  unknown : n + 1 < slice_index expr i → Wrong n expr i
  again : slice_index_or expr i 0 < n → (j : ℕ) → j < i → slice_index expr j ≡ slice_index expr i → Wrong n expr i
  alone : n ≤ slice_index expr i → slice_index expr i ≤ n + 1 → (ps : List Part) → Reads n (take i expr) [] ps → length ps < 2 → Wrong n expr i

-- the number at place i breaks the expression
abbrev pub Breaks : ℕ → List ℕ → ℕ → Type 0
Breaks n expr i = (i < length expr) × Wrong n expr i

-- The order of n cells that the expression means: reading it leaves one part, which has each cell once and tells every
-- relation.
pub record Expression (n : ℕ) (expr : List ℕ) (o : Order) : Type 0 where
  pub count : o.count ≡ n
  pub part : Part
  pub read : Reads n expr [] (part ∷ [])
  pub cells : Row n (leaves part)
  pub each : (a b : ℕ) → Apart o a b → Tells part a b (o.rel a b)

-- why n and a list make no book: the count first, then the length, then the first number that breaks the expression
pub data NoExpression (n : ℕ) (expr : List ℕ) : SheetFault → Type 0 where
  bad_count : (Countable n → ⊥) → NoExpression n expr (sheet.Field (field.CellCount 0 n))
  wrong_length : Countable n → length expr + 1 ≢ 2 * n → NoExpression n expr (sheet.ListLength 1)
  breaks : {i : ℕ} → Countable n → length expr + 1 ≡ 2 * n
      → FirstWith (Breaks n expr) i → NoExpression n expr (sheet.Field (field.Order 0 1 i))

-- a list that means a lawful order is refused for no reason
abbrev pub ExpressionNeverRefused : Type 0
ExpressionNeverRefused = (n : ℕ) (expr : List ℕ) (o : Order) (f : SheetFault) → Laws o → Expression n expr o → NoExpression n expr f → ⊥

-- in every order that an expression means, wherever two parts stand side by side inside it, each cell of the earlier
-- one is left of each cell of the later
abbrev pub BesideEarlierIsLeft : Type 0
BesideEarlierIsLeft = (n : ℕ) (expr : List ℕ) (o : Order) (e : Expression n expr o) (p q : Part) → PartOf (beside p q) e.part
    → (a b : ℕ) → In a p → In b q → LeftOf o a b

-- and wherever two parts are stacked, each cell of the later one is above each cell of the earlier
abbrev pub StackedLaterIsAbove : Type 0
StackedLaterIsAbove = (n : ℕ) (expr : List ℕ) (o : Order) (e : Expression n expr o) (p q : Part) → PartOf (stacked p q) e.part
    → (a b : ℕ) → In a p → In b q → AboveOf o b a
