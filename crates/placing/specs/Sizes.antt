-- What a placing checks before it computes anything: the lengths of its five lists, then the sizes in the first two.
use Rattle.std.specs.Prelude.{◌≡◌, ℕ, ◌*◌, ◌<◌, ◌≢◌, List, Some, Option, slice_index_or}
use Rattle.refusal.specs.declared.fault.Side.TheVariants.{Width, Height}
use Rattle.refusal.specs.declared.fault.SheetFault.{SheetFault}
use Rattle.refusal.specs.declared.fault.SheetFault.TheVariants.{NotASize, ListLength, PairSizesDiffer, OddCentre}
use Rattle.book.specs.Order.{Order}
use Rattle.length.specs.Kind.{Kind, Even}
use Rattle.placement.specs.Meaning.{Meaning}
use Rattle.placement.specs.Placements.{Sizes}
use Rattle.group.specs.declared.table.Group.{Group}
use Rattle.group.specs.Group.{sheet_of}

-- the lists of a placing of n cells have the lengths that they must have
pub record Lists (n widths heights work x y : ℕ) : Type 0 where
  pub one_width : widths ≡ n
  pub one_height : heights ≡ n
  pub two_of_work : work ≡ 2 * n
  pub one_x : x ≡ n
  pub one_y : y ≡ n

-- the first list of a wrong length is told, counted from 1
pub data NoLists (n widths heights work x y : ℕ) : SheetFault → Type 0 where
  widths_length : widths ≢ n → NoLists n widths heights work x y (ListLength 1)
  heights_length : widths ≡ n → heights ≢ n → NoLists n widths heights work x y (ListLength 2)
  work_length : widths ≡ n → heights ≡ n → work ≢ 2 * n → NoLists n widths heights work x y (ListLength 3)
  x_length : widths ≡ n → heights ≡ n → work ≡ 2 * n → x ≢ n → NoLists n widths heights work x y (ListLength 4)
  y_length : widths ≡ n → heights ≡ n → work ≡ 2 * n → x ≡ n → y ≢ n → NoLists n widths heights work x y (ListLength 5)

-- the length that a list has for each cell; a cell past the end of the list has zero, which is no size
abbrev pub entries : {V : Type 0} → Kind V → List V → ℕ → V
entries k list a = slice_index_or list a k.zero

-- P holds of every cell below n
abbrev pub Each : ℕ → (ℕ → Type 0) → Type 0
Each n P = (a : ℕ) → a < n → P a

-- the width and the height of a are sizes
pub record Sized {V : Type 0} (k : Kind V) (w h : ℕ → V) (a : ℕ) : Type 0 where
  pub wide : k.size (w a)
  pub high : k.size (h a)

-- a and b are equally wide and equally high
pub record Agree {V : Type 0} (w h : ℕ → V) (a b : ℕ) : Type 0 where
  pub same_width : w a ≡ w b
  pub same_height : h a ≡ h b

-- a agrees with its mate, if it has one
abbrev pub Matched : {V : Type 0} → (ℕ → Option ℕ) → (w h : ℕ → V) → ℕ → Type 0
Matched mate w h a = (b : ℕ) → mate a ≡ Some b → Agree w h a b

-- the width of a is even, if a is centred
abbrev pub Balanced : {V : Type 0} → Kind V → (ℕ → Option ℕ) → (ℕ → V) → ℕ → Type 0
Balanced k mate w a = mate a ≡ Some a → Even k (w a)

-- Why widths and heights of n cells are not lawful: one is no size; or else a pair differs; or else a centred width is odd.
-- Each case tells the lowest cell that has the fault, its width before its height; of a pair that is the lower cell.
pub data Unlawful {V : Type 0} (k : Kind V) (mate : ℕ → Option ℕ) (n : ℕ) (w h : ℕ → V) : SheetFault → Type 0 where
  no_width : {a : ℕ} → a < n → Each a (Sized k w h) → (k.size (w a) → ⊥) → Unlawful k mate n w h (NotASize a Width)
  no_height : {a : ℕ} → a < n → Each a (Sized k w h) → k.size (w a) → (k.size (h a) → ⊥) → Unlawful k mate n w h (NotASize a Height)
  pair_differs : {a b : ℕ} → a < b → b < n → Each n (Sized k w h) → Each a (Matched mate w h) → mate a ≡ Some b → (Agree w h a b → ⊥)
      → Unlawful k mate n w h (PairSizesDiffer a b)
  odd_centre : {a : ℕ} → a < n → Each n (Sized k w h) → Each n (Matched mate w h) → Each a (Balanced k mate w) → mate a ≡ Some a → (Even k (w a) → ⊥)
      → Unlawful k mate n w h (OddCentre a)

-- widths and heights that are lawful on every sheet with this group: the order of the cells does not matter to them
abbrev pub Fit : {V : Type 0} → Kind V → Group → (w h : ℕ → V) → Type 0
Fit k g w h = (o : Order) → o.count ≡ g.count → Sizes k (sheet_of o g) w h

-- a check is exact: what passes has no fault to tell, and nothing has two
pub record Exact (Passes : Type 0) (Tells : SheetFault → Type 0) : Type 0 where
  pub never_both : (f : SheetFault) → Tells f → Passes → ⊥
  pub only_one : (e f : SheetFault) → Tells e → Tells f → e ≡ f

-- the check of the lists is exact
abbrev pub ListsExact : Type 0
ListsExact = (n widths heights work x y : ℕ) → Exact (Lists n widths heights work x y) (NoLists n widths heights work x y)

-- so is the check of the sizes, on every sheet
abbrev pub SizesExact : {V : Type 0} → Kind V → Type 0
SizesExact {V} k = (m : Meaning) (w h : ℕ → V) → Exact (Sizes k m w h) (Unlawful k m.mate m.order.count w h)
