-- The part of the rule that goes across: images, chains, and the joins of their widths.
use Rattle.std.specs.Prelude.{ℕ, List, [], ◌∷◌}
use Rattle.book.specs.Order.{LeftOf}
use Rattle.length.specs.Kind.{Kind}
use Rattle.length.specs.Join.{IsJoin}
use Rattle.placement.specs.Walks.{Path, Walk}
use Rattle.placement.specs.Meaning.{Meaning, Cell, Mate, Free}
use Rattle.placement.specs.Downward.{total}

-- a cell, or the image of a free cell
pub data Node : Type 0 where
  cell : ℕ → Node
  image : ℕ → Node

-- the node is one of the sheet: only a free cell has an image that is no cell
abbrev pub IsNode : Meaning → Node → Type 0
IsNode m (cell a) = Cell m a
IsNode m (image a) = Free m a

-- the image of a cell: a group cell's is its mate, a free cell's a thing of its own
pub data Image (m : Meaning) : ℕ → Node → Type 0 where
  of_mate : {a b : ℕ} → Mate m a b → Image m a (cell b)
  of_free : {a : ℕ} → Free m a → Image m a (image a)

-- an image is as wide as its cell
abbrev pub node_width : {V : Type 0} → (ℕ → V) → Node → V
node_width w (cell a) = w a
node_width w (image a) = w a

-- where a is left of b, a precedes b, and the image of b precedes the image of a
pub data Precedes (m : Meaning) : Node → Node → Type 0 where
  straight : {a b : ℕ} → LeftOf m.order a b → Precedes m (cell a) (cell b)
  mirrored : {a b : ℕ} {u v : Node} → LeftOf m.order a b → Image m b u → Image m a v → Precedes m u v

-- a chain: a list, perhaps empty, of nodes, each preceding the next
abbrev pub Chain : Meaning → List Node → Type 0
Chain m [] = Unit {0}
Chain m (u ∷ us) = IsNode m u × Path (Precedes m) u us

-- a chain into v: empty, or its last precedes v
abbrev pub Into : Meaning → Node → List Node → Type 0
Into m v [] = Unit {0}
Into m v (u ∷ us) = Walk (Precedes m) u us v

-- t is in(v): the join of the width sums of all chains into v
abbrev pub In : {V : Type 0} → Kind V → Meaning → (ℕ → V) → Node → V → Type 0
In k m w v t = IsJoin k (Into m v) (total k (node_width w)) t

-- t is the join of the width sums of all chains
abbrev pub Longest : {V : Type 0} → Kind V → Meaning → (ℕ → V) → V → Type 0
Longest k m w t = IsJoin k (Chain m) (total k (node_width w)) t
