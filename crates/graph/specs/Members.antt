-- What the calls of a set of nodes change.
use Rattle.std.specs.Prelude.{◌≡◌, ℕ, ◌<◌, ◌≤◌, ◌⊎◌, ◌≢◌}
use Rattle.graph.specs.declared.node_set.NodeSet.{NodeSet}
use Rattle.graph.specs.Nodes.{Has, rank, most_nodes}

-- t has what s has, and u if it can be a node
pub record Inserted (s t : NodeSet) (u : ℕ) : Type 0 where
  pub kept : (w : ℕ) → Has s w → Has t w
  pub only : (w : ℕ) → Has t w → Has s w ⊎ (w ≡ u)
  pub there : u < most_nodes → Has t u

-- u is the lowest member of s, and t has the others
pub record Taken (s t : NodeSet) (u : ℕ) : Type 0 where
  pub member : Has s u
  pub lowest : (w : ℕ) → Has s w → u ≤ w
  pub only : (w : ℕ) → Has t w → Has s w × (w ≢ u)
  pub kept : (w : ℕ) → Has s w → (w ≢ u) → Has t w
  pub falls : rank t < rank s

-- s has no member, and t none either
pub record Bare (s t : NodeSet) : Type 0 where
  pub nothing : (w : ℕ) → Has s w → ⊥
  pub same : t ≡ s
