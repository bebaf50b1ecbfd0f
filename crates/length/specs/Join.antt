-- The least upper bound of a family of lengths. Assumes nothing.
use Rattle.length.specs.Kind.{Kind}

-- t is the least upper bound of what f gives at each i of which P holds; of none at all it is zero.
pub record IsJoin {V : Type 0} (k : Kind V) {I : Type 0} (P : I → Type 0) (f : I → V) (t : V) : Type 0 where
  pub above : (i : I) → P i → k.at_most (f i) t
  pub least : (b : V) → ((i : I) → P i → k.at_most (f i) b) → k.at_most t b
