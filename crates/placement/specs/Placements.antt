-- Sizes, and what a placement of a sheet is, for any kind of length.
use Rattle.std.specs.Prelude.{◌≡◌, ℕ}
use Rattle.book.specs.Order.{LeftOf, AboveOf}
use Rattle.length.specs.Kind.{Kind, Even}
use Rattle.length.specs.Kinds.{plain_kind}
use Rattle.length.specs.declared.Plain.{Plain}
use Rattle.placement.specs.Meaning.{Meaning, Cell, Mate}

-- lawful widths and heights: all are sizes, a pair agrees in both, and a centred width has equal halves
pub record Sizes {V : Type 0} (k : Kind V) (m : Meaning) (w h : ℕ → V) : Type 0 where
  pub wide : (a : ℕ) → Cell m a → k.size (w a)
  pub high : (a : ℕ) → Cell m a → k.size (h a)
  pub same_width : (a b : ℕ) → Mate m a b → w a ≡ w b
  pub same_height : (a b : ℕ) → Mate m a b → h a ≡ h b
  pub even : (a : ℕ) → Mate m a a → Even k (w a)

-- Left edges x, bottoms y and a half-span: every cell ends within the span, which is twice the half-span; cells that
-- are left of or above others keep clear of them; mates stand level and mirror each other about the axis, the middle
-- of the span. (A centred cell is its own mate.)
pub record Placement {V : Type 0} (k : Kind V) (m : Meaning) (w h x y : ℕ → V) (half : V) : Type 0 where
  pub inside : (a : ℕ) → Cell m a → k.at_most (k.plus (x a) (w a)) (k.plus half half)
  pub beside : (a b : ℕ) → LeftOf m.order a b → k.at_most (k.plus (x a) (w a)) (x b)
  pub stacked : (a b : ℕ) → AboveOf m.order a b → k.at_most (k.plus (y b) (h b)) (y a)
  pub level : (a b : ℕ) → Mate m a b → y a ≡ y b
  pub mirrored : (a b : ℕ) → Mate m a b → k.plus (k.plus (x a) (x b)) (w a) ≡ k.plus half half

-- some lawful whole-number sizes have a placement
pub record Placeable (m : Meaning) : Type 0 where
  pub w : ℕ → Plain
  pub h : ℕ → Plain
  pub x : ℕ → Plain
  pub y : ℕ → Plain
  pub half : Plain
  pub lawful : Sizes plain_kind m w h
  pub placed : Placement plain_kind m w h x y half
