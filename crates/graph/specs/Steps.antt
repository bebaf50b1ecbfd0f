-- The steps of a graph, and what its calls change of them.
use Rattle.std.specs.Prelude.{◌≡◌, ℕ, ◌<◌, ◌⊎◌, slice_index_or}
use Rattle.graph.specs.declared.graph.Graph.{Graph}
use Rattle.graph.specs.Nodes.{Has, none}

-- u comes next after v
abbrev pub Step : Graph → ℕ → ℕ → Type 0
Step g v u = (v < g.nodes) × Has (slice_index_or g.next v none) u

-- so many nodes, and no step
pub record Stepless (nodes : ℕ) (g : Graph) : Type 0 where
  pub count : g.nodes ≡ nodes
  pub nothing : (v u : ℕ) → Step g v u → ⊥

-- h has the steps of g, and one from v to u where both are nodes
pub record Linked (g h : Graph) (v u : ℕ) : Type 0 where
  pub count : h.nodes ≡ g.nodes
  pub kept : (x y : ℕ) → Step g x y → Step h x y
  pub only : (x y : ℕ) → Step h x y → Step g x y ⊎ ((x ≡ v) × (y ≡ u))
  pub there : v < g.nodes → u < g.nodes → Step h v u
