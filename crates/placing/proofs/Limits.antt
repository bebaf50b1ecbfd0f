-- No sum passes the limit: the heaviest path from a node measures at most so many of the largest size as there are nodes.
use Rattle.std.proofs.Common.{ℕ, ◌+◌, ◌*◌, ◌<◌, ◌≤◌, arith}
use Rattle.length.specs.Kind.{Kind, largest_size, sum_limit}
use Rattle.graph.specs.declared.graph.Graph.{Graph}
use Rattle.graph.specs.Nodes.{most_nodes}
use Rattle.graph.specs.Heaviest.{Light, Bounded}

pub path_and_node_within : {V : Type 0} (k : Kind V) (g : Graph) (weight out : ℕ → V) → Light k g weight → Bounded k g out → (u : ℕ) → u < g.nodes → sum_limit < k.measure (out u) + k.measure (weight u) → ⊥
path_and_node_within k g weight out light bounded u low over =
    let nodes : g.nodes ≤ most_nodes = g.few in
    let path : k.measure (out u) ≤ g.nodes * largest_size = bounded u low in
    let node : k.measure (weight u) ≤ largest_size = light u low in
    omega arith
