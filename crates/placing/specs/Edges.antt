-- The left edges of the rule, and what suffices for all sums and differences on the way to them.
use Rattle.std.specs.Prelude.{◌≡◌, ℕ, ◌+◌, ◌≤◌}
use Rattle.length.specs.Kind.{Kind, sum_limit}
use Rattle.placement.specs.Meaning.{Meaning, Cell}
use Rattle.placement.specs.Rule.{RoundsUp, middle}

-- x is the left edge of a, where t is twice its place
pub record EdgeAt {V : Type 0} (k : Kind V) (m : Meaning) (a : ℕ) (t x : V) : Type 0 where
  pub up : RoundsUp m a → x ≡ k.upper t
  pub down : (RoundsUp m a → ⊥) → x ≡ k.lower t

-- x has the left edges that the rule gives within twice the half-span
pub record LeftEdges {V : Type 0} (k : Kind V) (m : Meaning) (w before after x : ℕ → V) (half : V) : Type 0 where
  pub each : (a : ℕ) → Cell m a → EdgeAt k m a (middle k (k.plus half half) (w a) (before a) (after a)) (x a)

-- there is room for a cell and what stands after it within the span, and no sum passes the limit
pub record Room {V : Type 0} (k : Kind V) (span w before after : V) : Type 0 where
  pub fits : k.at_most (k.plus w after) span
  pub small : k.measure before + k.measure span ≤ sum_limit

-- there is room for every cell within twice the half-span
pub record RoomForAll {V : Type 0} (k : Kind V) (m : Meaning) (w before after : ℕ → V) (half : V) : Type 0 where
  pub span_small : k.measure half + k.measure half ≤ sum_limit
  pub each : (a : ℕ) → Cell m a → Room k (k.plus half half) (w a) (before a) (after a)
