-- The two parts of what a placing gives: downward, and across.
use Rattle.std.specs.Prelude.{ℕ, ◌+◌, ◌*◌, ◌<◌, ◌≤◌}
use Rattle.length.specs.Kind.{Kind, largest_size}
use Rattle.placement.specs.Meaning.{Meaning, Cell}
use Rattle.placement.specs.Downward.{Bottom, Depth}
use Rattle.placement.specs.Across.{Node, cell, Image, In, Longest}
use Rattle.placing.specs.Codes.{node_of}

-- every cell's length is a size
abbrev pub AllSizes : {V : Type 0} → Kind V → Meaning → (ℕ → V) → Type 0
AllSizes k m f = (a : ℕ) → Cell m a → k.size (f a)

-- the bottoms and the depth
pub record GivenDown {V : Type 0} (k : Kind V) (m : Meaning) (h y : ℕ → V) (depth : V) : Type 0 where
  pub bottoms : (a : ℕ) → Cell m a → Bottom k m h a (y a)
  pub depth_is : Depth k m h y depth

-- in of each cell and of each image, and the longest chain
pub record GivenAcross {V : Type 0} (k : Kind V) (m : Meaning) (w before after : ℕ → V) (longest : V) : Type 0 where
  pub longest_is : Longest k m w longest
  pub before_is : (a : ℕ) → Cell m a → In k m w (cell a) (before a)
  pub after_is : (a : ℕ) (u : Node) → Image m a u → In k m w u (after a)

-- of each node, by its number, in; and the longest chain
pub record GivenNodes {V : Type 0} (k : Kind V) (m : Meaning) (w value : ℕ → V) (longest : V) : Type 0 where
  pub longest_is : Longest k m w longest
  pub each_is : (u : ℕ) → u < 2 * m.order.count → In k m w (node_of m.order.count u) (value u)

-- the first n values and the longest chain measure at most what so many of the largest size do as there are nodes, and one more
pub record SmallAcross {V : Type 0} (k : Kind V) (m : Meaning) (n : ℕ) (value : ℕ → V) (longest : V) : Type 0 where
  pub each_small : (u : ℕ) → u < n → k.measure (value u) ≤ 2 * m.order.count * largest_size
  pub longest_small : k.measure longest ≤ (2 * m.order.count + 1) * largest_size
