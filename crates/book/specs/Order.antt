-- What a book means: the relative order of its cells, its laws, and what a swap makes of it.
use Rattle.std.specs.Prelude.{◌≡◌, ℕ, ◌<◌, ◌≤◌, cond, ◌≢◌, ◌==◌}
use Rattle.book.specs.declared.relation.Relation.{Relation}
use Rattle.book.specs.declared.relation.Relation.TheVariants.{Left, Right, Above, Below}

-- the most cells that a book can have
abbrev pub most_cells : ℕ
most_cells = 64

-- how many cells there are, numbered from 0, and how each lies to each other one
pub record Order : Type 0 where
  pub count : ℕ
  pub rel : ℕ → ℕ → Relation

-- two different cells of the order
pub record Apart (o : Order) (a b : ℕ) : Type 0 where
  pub a_in : a < o.count
  pub b_in : b < o.count
  pub differ : a ≢ b

-- a lies left of b; so b lies right of a
pub record LeftOf (o : Order) (a b : ℕ) : Type 0 where
  pub apart : Apart o a b
  pub told : o.rel a b ≡ Left

-- a lies above b; so b lies below a
pub record AboveOf (o : Order) (a b : ℕ) : Type 0 where
  pub apart : Apart o a b
  pub told : o.rel a b ≡ Above

-- a lies to b as b lies to a, seen from the other side
abbrev pub opposite : Relation → Relation
opposite Left = Right
opposite Right = Left
opposite Above = Below
opposite Below = Above

-- the ways in which two different cells can lie
pub data Lie (o : Order) (a b : ℕ) : Type 0 where
  left : LeftOf o a b → Lie o a b
  right : LeftOf o b a → Lie o a b
  above : AboveOf o a b → Lie o a b
  below : AboveOf o b a → Lie o a b

-- The laws of every book. `converse` says that right and below are the converses of left and above; as an order gives
-- one answer for two cells, exactly one of the four holds.
pub record Laws (o : Order) : Type 0 where
  pub some : 1 ≤ o.count
  pub few : o.count ≤ most_cells
  pub total : (a b : ℕ) → Apart o a b → Lie o a b
  pub converse : (a b : ℕ) → Apart o a b → o.rel b a ≡ opposite (o.rel a b)
  pub left_transitive : (a b c : ℕ) → LeftOf o a b → LeftOf o b c → LeftOf o a c
  pub above_transitive : (a b c : ℕ) → AboveOf o a b → AboveOf o b c → AboveOf o a c

-- q means what o means: the same count, and the same relation of every two different cells
pub record SameOrder (o q : Order) : Type 0 where
  pub count : q.count ≡ o.count
  pub each : (x y : ℕ) → Apart o x y → q.rel x y ≡ o.rel x y

-- the name x after the names a and b were exchanged
abbrev pub trade : ℕ → ℕ → ℕ → ℕ
trade a b x = cond (x == a) b (cond (x == b) a x)

-- o with the names a and b exchanged in every relation
abbrev pub swapped : ℕ → ℕ → Order → Order
swapped a b o = record { count = o.count; rel = λ x y. o.rel (trade a b x) (trade a b y) }
