-- The graphs whose heaviest paths are the values of the rule: one downward, and one across; and the steps that each cell
-- gives to them.
use Rattle.std.specs.Prelude.{◌≡◌, ℕ, ◌*◌, ◌<◌, ◌⊎◌, Some, None, Option, unwrap_or}
use Rattle.book.specs.Order.{LeftOf, AboveOf}
use Rattle.placement.specs.Meaning.{Meaning}
use Rattle.placement.specs.Downward.{Under}
use Rattle.placement.specs.Across.{Precedes}
use Rattle.graph.specs.declared.graph.Graph.{Graph}
use Rattle.graph.specs.Steps.{Step}
use Rattle.placing.specs.Codes.{node_of, image_of}

-- the cells, each with steps to the cells under it
pub record Falls (m : Meaning) (g : Graph) : Type 0 where
  pub count : g.nodes ≡ m.order.count
  pub only : (v u : ℕ) → Step g v u → Under m v u
  pub all : (v u : ℕ) → Under m v u → Step g v u

-- the nodes across, each with steps to the nodes that precede it
pub record Sides (m : Meaning) (g : Graph) : Type 0 where
  pub count : g.nodes ≡ 2 * m.order.count
  pub only : (v u : ℕ) → Step g v u → Precedes m (node_of m.order.count u) (node_of m.order.count v)
  pub all : (v u : ℕ) → Precedes m (node_of m.order.count u) (node_of m.order.count v) → Step g v u

-- two steps, each from a node to the next, or none
abbrev pub TwoSteps : Type 0
TwoSteps = Option ((ℕ × ℕ) × (ℕ × ℕ))

-- the step from v to u is one of them
abbrev pub OneOf : TwoSteps → ℕ → ℕ → Type 0
OneOf None v u = ⊥
OneOf (Some r) v u = ((v ≡ r.0.0) × (u ≡ r.0.1)) ⊎ ((v ≡ r.1.0) × (u ≡ r.1.1))

-- so many nodes, with the steps that are given for each two cells of C, where both ends are nodes, and no others
pub record Built (nodes : ℕ) (gives : ℕ → ℕ → TwoSteps → Type 0) (C : ℕ → ℕ → Type 0) (g : Graph) : Type 0 where
  pub count : g.nodes ≡ nodes
  pub only : (v u : ℕ) → Step g v u → (a b : ℕ) × C a b × (r : TwoSteps) × gives a b r × OneOf r v u
  pub all : (a b : ℕ) → C a b → (r : TwoSteps) × gives a b r × ((v u : ℕ) → OneOf r v u → v < nodes → u < nodes → Step g v u)

-- what is given downward for a and b: where a is above b, the steps from a and from its mate to b
pub data DownFrom (m : Meaning) (a b : ℕ) : TwoSteps → Type 0 where
  above : AboveOf m.order a b → DownFrom m a b (Some ((a, b), (unwrap_or (m.mate a) a, b)))
  not_above : (AboveOf m.order a b → ⊥) → DownFrom m a b None

-- what is given across for a and b: where a is left of b, the steps from b to a, and from the image of a to that of b
pub data AcrossFrom (m : Meaning) (a b : ℕ) : TwoSteps → Type 0 where
  left : LeftOf m.order a b → AcrossFrom m a b (Some ((b, a), (image_of m.order.count a (m.mate a), image_of m.order.count b (m.mate b))))
  not_left : (LeftOf m.order a b → ⊥) → AcrossFrom m a b None
