-- How far the heaviest paths of a graph reach.
use Rattle.std.specs.Prelude.{ℕ, ◌<◌}
use Rattle.length.specs.Kind.{Kind}
use Rattle.length.specs.Join.{IsJoin}
use Rattle.graph.specs.declared.graph.Graph.{Graph}
use Rattle.graph.specs.Heaviest.{Heaviest}

-- the heaviest paths from each node, and the join of what each weighs with its node
pub record Reached {V : Type 0} (k : Kind V) (g : Graph) (weight value : ℕ → V) (end : V) : Type 0 where
  pub heaviest : Heaviest k g weight value
  pub end_is : IsJoin k (λ u. u < g.nodes) (λ u. k.plus (value u) (weight u)) end
