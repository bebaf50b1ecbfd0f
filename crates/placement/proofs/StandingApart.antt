-- Where nodes stand so that each ends before the next of a chain begins, a chain's widths fit before the node that it
-- leads into, and all chains fit before whatever every node ends before.
use Rattle.std.proofs.Common.{ℕ, List, [], ◌∷◌, sym}
use Rattle.length.specs.Kind.{Kind, Laws}
use Rattle.length.proofs.Algebra.{at_most_plus_right}
use Rattle.placement.specs.Walks.{Path, Walk}
use Rattle.placement.specs.Meaning.{Meaning, Lawful}
use Rattle.placement.specs.Downward.{total}
use Rattle.placement.specs.Across.{Node, IsNode, node_width, Precedes, Chain, Into}
use Rattle.placement.proofs.Images.{second_is_node}

module _ {V : Type 0} {k : Kind V} (laws : Laws k) {m : Meaning} {w : ℕ → V} (at : Node → V) (apart : (u v : Node) → Precedes m u v → k.at_most (k.plus (at u) (node_width w u)) (at v)) where
  abbrev widths : List Node → V
  widths = total k (node_width w)

  -- one node more before what fits
  step_fits : (u v : Node) (rest end : V) → Precedes m u v → k.at_most (k.plus (at v) rest) end → k.at_most (k.plus (at u) (k.plus (node_width w u) rest)) end
  step_fits u v rest end step fits =
      rw (sym (laws.plus_assoc (at u) (node_width w u) rest))
      (laws.at_most_trans _ _ _ (laws.plus_keeps _ _ rest (apart u v step)) fits)

  walk_fits : (u : Node) (us : List Node) (v : Node) → Walk (Precedes m) u us v → k.at_most (k.plus (at u) (widths (u ∷ us))) (at v)
  walk_fits u [] v walk = rw (laws.plus_zero (node_width w u)) (apart u v walk)
  walk_fits u (x ∷ us) v walk = step_fits u x (widths (x ∷ us)) (at v) walk.0 (walk_fits x us v walk.1)

  pub into_fits : (v : Node) (us : List Node) → Into m v us → k.at_most (widths us) (at v)
  into_fits v [] into = laws.zero_least (at v)
  into_fits v (u ∷ us) into = laws.at_most_trans _ _ _ (at_most_plus_right laws (at u) _) (walk_fits u us v into)

  module _ (lawful : Lawful m) (end : V) (ends : (u : Node) → IsNode m u → k.at_most (k.plus (at u) (node_width w u)) end) where
    path_fits : (u : Node) (us : List Node) → IsNode m u → Path (Precedes m) u us → k.at_most (k.plus (at u) (widths (u ∷ us))) end
    path_fits u [] here path = rw (laws.plus_zero (node_width w u)) (ends u here)
    path_fits u (v ∷ us) here path = step_fits u v (widths (v ∷ us)) end path.0 (path_fits v us (second_is_node lawful path.0) path.1)

    pub chain_fits : (us : List Node) → Chain m us → k.at_most (widths us) end
    chain_fits [] chain = laws.zero_least end
    chain_fits (u ∷ us) chain = laws.at_most_trans _ _ _ (at_most_plus_right laws (at u) _) (path_fits u us chain.0 chain.1)
