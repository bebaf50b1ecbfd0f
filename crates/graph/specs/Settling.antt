-- What is known of the nodes that are done, while others are not.
use Rattle.std.specs.Prelude.{◌≡◌, ℕ, ◌*◌, ◌≤◌, ◌⊎◌, List, length, slice_index_or}
use Rattle.length.specs.Kind.{Kind, largest_size}
use Rattle.length.specs.Join.{IsJoin}
use Rattle.placement.specs.Walks.{Path}
use Rattle.placement.specs.Downward.{total}
use Rattle.graph.specs.declared.node_set.NodeSet.{NodeSet}
use Rattle.graph.specs.declared.graph.Graph.{Graph}
use Rattle.graph.specs.declared.paths.Walk.{Walk}
use Rattle.graph.specs.Nodes.{Has}
use Rattle.graph.specs.Steps.{Step}
use Rattle.graph.specs.Heaviest.{dealt, Light}

-- no path from v has more than n steps
abbrev pub Reach : Graph → ℕ → ℕ → Type 0
Reach g v n = (us : List ℕ) → Path (Step g) v us → length us ≤ n

-- zero, or of a measure of at most n. (Zero itself may measure more than 0.)
abbrev pub Weighs : {V : Type 0} → Kind V → ℕ → V → Type 0
Weighs k n x = (x ≡ k.zero) ⊎ (k.measure x ≤ n)

-- x is the join over the paths P from v, none of which is longer than some number, and weighs little where the nodes do
pub record Known {V : Type 0} (k : Kind V) (g : Graph) (weight : ℕ → V) (v : ℕ) (P : List ℕ → Type 0) (x : V) : Type 0 where
  pub joined : IsJoin k P (total k weight) x
  pub ends : (n : ℕ) × ((us : List ℕ) → P us → length us ≤ n)
  pub light : Light k g weight → (n : ℕ) → Reach g v n → Weighs k (n * largest_size) x

-- what stands in `out` at each node that is done
abbrev pub Settled : {V : Type 0} → Kind V → Graph → (ℕ → V) → NodeSet → (ℕ → V) → Type 0
Settled k g weight done out = (u : ℕ) → Has done u → Known k g weight u (Path (Step g) u) (out u)

-- the same of a walk, and what its entries hold
abbrev pub SettledIn : {V : Type 0} → Kind V → Walk V → Type 0
SettledIn k w = Settled k w.graph.now (dealt k.zero w.weights.now) w.done (λ u. slice_index_or w.out.now u k.zero)

-- t is the walk w gone on: over the same graph, with the same weights, writing to the same place, and with no node less done
pub record GoneOn {V : Type 0} (w t : Walk V) : Type 0 where
  pub graph : t.graph ≡ w.graph
  pub weights : t.weights ≡ w.weights
  pub place : t.out.ghost_name ≡ w.out.ghost_name
  pub grown : (u : ℕ) → Has w.done u → Has t.done u
