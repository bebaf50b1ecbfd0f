-- Chains into a node: they are the walks to it, or nothing, and they are chains.
use Rattle.std.proofs.Common.{List, [], ◌∷◌}
use Rattle.placement.specs.Walks.{Walk}
use Rattle.placement.specs.Meaning.{Meaning, Lawful}
use Rattle.placement.specs.Across.{Node, IsNode, Precedes, Chain, Into}
use Rattle.placement.proofs.Images.{first_is_node}
use Rattle.placement.proofs.Walking.{walk_path}
use Rattle.placement.proofs.Backwards.{WalkTo}

pub into_is_walk : (m : Meaning) (v : Node) (us : List Node) → Into m v us → WalkTo (Precedes m) v us
into_is_walk m v [] h = tt
into_is_walk m v (u ∷ us) h = h

pub walk_is_into : (m : Meaning) (v : Node) (us : List Node) → WalkTo (Precedes m) v us → Into m v us
walk_is_into m v [] h = tt
walk_is_into m v (u ∷ us) h = h

pub walk_from_node : {m : Meaning} → Lawful m → (u : Node) (us : List Node) (v : Node) → Walk (Precedes m) u us v → IsNode m u
walk_from_node lawful u [] v h = first_is_node lawful h
walk_from_node lawful u (x ∷ us) v h = first_is_node lawful h.0

pub into_is_chain : {m : Meaning} → Lawful m → (v : Node) (us : List Node) → Into m v us → Chain m us
into_is_chain lawful v [] h = tt
into_is_chain {m} lawful v (u ∷ us) h = (walk_from_node lawful u us v h, walk_path (Precedes m) u us v h)
