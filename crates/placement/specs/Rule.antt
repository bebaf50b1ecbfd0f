-- The one placement that the product gives: the joins of the downward part and of the part across, and the rounding.
use Rattle.std.specs.Prelude.{◌≡◌, ℕ, ◌⊎◌}
use Rattle.book.specs.Order.{LeftOf}
use Rattle.length.specs.Kind.{Kind}
use Rattle.placement.specs.Meaning.{Meaning, Cell, Mate}
use Rattle.placement.specs.Downward.{Bottom, Depth}
use Rattle.placement.specs.Across.{Node, cell, Image, In, Longest}

-- the right member of a pair: the one that is right of its mate
abbrev pub RightMember : Meaning → ℕ → Type 0
RightMember m a = (b : ℕ) × Mate m a b × LeftOf m.order b a

-- the left edge is rounded up: a right member, or a cell with a right member left of it
abbrev pub RoundsUp : Meaning → ℕ → Type 0
RoundsUp m a = RightMember m a ⊎ ((c : ℕ) × RightMember m c × LeftOf m.order c a)

-- twice the place of a cell of width w, halfway between as far left and as far right as it can stand:
-- before + (span − w − after), where before is in(a) and after is in of a's image
abbrev pub middle : {V : Type 0} → Kind V → V → V → V → V → V
middle k span w before after = k.plus before (k.minus (k.minus span w) after)

-- What a placing gives: in of each cell and of each image, left edges, bottoms, the half-span and the depth.
pub record Given {V : Type 0} (k : Kind V) (m : Meaning) (w h before after x y : ℕ → V) (half depth : V) : Type 0 where
  pub longest : V
  pub longest_is : Longest k m w longest
  pub half_is : half ≡ k.upper longest
  pub before_is : (a : ℕ) → Cell m a → In k m w (cell a) (before a)
  pub after_is : (a : ℕ) (u : Node) → Image m a u → In k m w u (after a)
  pub up : (a : ℕ) → Cell m a → RoundsUp m a → x a ≡ k.upper (middle k (k.plus half half) (w a) (before a) (after a))
  pub down : (a : ℕ) → Cell m a → (RoundsUp m a → ⊥) → x a ≡ k.lower (middle k (k.plus half half) (w a) (before a) (after a))
  pub bottoms : (a : ℕ) → Cell m a → Bottom k m h a (y a)
  pub depth_is : Depth k m h y depth
