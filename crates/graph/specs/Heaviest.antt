-- The heaviest paths of a graph: for each node the join of what the paths from it weigh.
use Rattle.std.specs.Prelude.{ℕ, ◌*◌, ◌%◌, ◌<◌, ◌≤◌, List, length, slice_index_or}
use Rattle.length.specs.Kind.{Kind, largest_size}
use Rattle.length.specs.Join.{IsJoin}
use Rattle.placement.specs.Walks.{Path}
use Rattle.placement.specs.Downward.{total}
use Rattle.graph.specs.declared.graph.Graph.{Graph}
use Rattle.graph.specs.Steps.{Step}

-- What a node weighs. Where there are fewer weights than nodes, they are dealt out again from the first on.
abbrev pub dealt : {V : Type 0} → V → List V → ℕ → V
dealt zero weights u = slice_index_or weights (u % length weights) zero

-- `out` has at each node v the join of the weights of all paths from v (v itself not counted)
pub record Heaviest {V : Type 0} (k : Kind V) (g : Graph) (weight out : ℕ → V) : Type 0 where
  pub each : (v : ℕ) → v < g.nodes → IsJoin k (Path (Step g) v) (total k weight) (out v)

-- no path has more steps than there are nodes
abbrev pub Short : Graph → Type 0
Short g = (v : ℕ) (us : List ℕ) → Path (Step g) v us → length us ≤ g.nodes

-- no node weighs more than the largest size
abbrev pub Light : {V : Type 0} → Kind V → Graph → (ℕ → V) → Type 0
Light k g weight = (u : ℕ) → u < g.nodes → k.measure (weight u) ≤ largest_size

-- and no join more than so many of the largest size as there are nodes
abbrev pub Bounded : {V : Type 0} → Kind V → Graph → (ℕ → V) → Type 0
Bounded k g out = (v : ℕ) → v < g.nodes → k.measure (out v) ≤ g.nodes * largest_size
