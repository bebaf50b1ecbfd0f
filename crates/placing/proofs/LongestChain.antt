-- The longest chain by numbers: of all numbers, the heaviest path from one with the weight of that number on top.
use Rattle.std.proofs.Common.{◌≡◌, ℕ, ◌*◌, ◌<◌, List, [], ◌∷◌, ◌++◌, sym, ap, ◌∙◌, subst, arith}
use Rattle.length.specs.Kind.{Kind, Laws}
use Rattle.length.specs.Join.{IsJoin}
use Rattle.length.proofs.Algebra.{zero_plus, at_most_plus_right}
use Rattle.length.proofs.Joins.{join_shift}
use Rattle.placement.specs.Walks.{Path, Walk}
use Rattle.placement.specs.Meaning.{Meaning, Lawful}
use Rattle.placement.specs.Downward.{total}
use Rattle.placement.specs.Across.{Node, cell, IsNode, node_width, Precedes, Chain, Into, In, Longest}
use Rattle.placement.proofs.Images.{second_is_node}
use Rattle.placement.proofs.Paths.{walk_then_path}
use Rattle.placement.proofs.Chains.{walk_from_node}
use Rattle.placement.proofs.Totals.{total_more}
use Rattle.placement.proofs.AcrossSteps.{node?}
use Rattle.placing.specs.Codes.{node_of}
use Rattle.placing.proofs.NodeCodes.{code, low, high, number, low_is_cell, high_is_image, node_of_code, code_below}
use Rattle.placing.proofs.HeaviestSteps.{step_weighs}
use Rattle.placing.proofs.CodedChains.{step_by_numbers, in_of_paths}

module _ {m : Meaning} (lawful : Lawful m) where
  chain_more : (v : Node) (us : List Node) → IsNode m v → Into m v us → Chain m (us ++ v ∷ [])
  chain_more v [] here into = (here, tt)
  chain_more v (u ∷ us) here into = (walk_from_node lawful u us v into, walk_then_path (Precedes m) u us v [] into tt)

  walk_to_node : (u : Node) (us : List Node) (v : Node) → Walk (Precedes m) u us v → IsNode m v
  walk_to_node u [] v walk = second_is_node lawful walk
  walk_to_node u (x ∷ us) v walk = walk_to_node x us v walk.1

  -- no chain leads into what is no node
  none_into : {V : Type 0} {k : Kind V} (laws : Laws k) (w : ℕ → V) (v : Node) → (IsNode m v → ⊥) → (us : List Node) → Into m v us → k.at_most (total k (node_width w) us) k.zero
  none_into laws w v not [] into = laws.at_most_same _
  none_into laws w v not (u ∷ us) into = absurd (not (walk_to_node u us v into))

-- a number is as wide as some cell
pub as_wide_as_cell : {V : Type 0} (n : ℕ) (w : ℕ → V) (u : ℕ) → u < 2 * n → (a : ℕ) × (a < n) × (node_width w (node_of n u) ≡ w a)
as_wide_as_cell n w u below =
    elim (number n u) [
      | low l ↦ (u, l, ap (node_width w) (low_is_cell n u l))
      | high a e ↦ (a, omega arith, ap (λ (v : ℕ). node_width w (node_of n v)) e ∙ ap (node_width w) (high_is_image n a))
    ]

module _ {m : Meaning} (lawful : Lawful m) (R : ℕ → ℕ → Type 0)
    (only : (v u : ℕ) → R v u → Precedes m (node_of m.order.count u) (node_of m.order.count v))
    (all : (v u : ℕ) → Precedes m (node_of m.order.count u) (node_of m.order.count v) → R v u)
    {V : Type 0} {k : Kind V} (laws : Laws k) (w weight out : ℕ → V)
    (weighs : (u : ℕ) → u < 2 * m.order.count → weight u ≡ node_width w (node_of m.order.count u))
    (heaviest : (u : ℕ) → u < 2 * m.order.count → IsJoin k (Path R u) (total k weight) (out u))
    (longest : V) (is_join : IsJoin k (λ (u : ℕ). u < 2 * m.order.count) (λ (u : ℕ). k.plus (out u) (weight u)) longest)
  where
    abbrev node : ℕ → Node
    node = node_of m.order.count

    abbrev code_of : Node → ℕ
    code_of = code m.order.count

    abbrev widths : List Node → V
    widths = total k (node_width w)

    weighs_as_wide : (u : Node) → IsNode m u → weight (code_of u) ≡ node_width w u
    weighs_as_wide u here = weighs (code_of u) (code_below m u here) ∙ ap (node_width w) (node_of_code m u here)

    chain_at_most : (u : Node) (us : List Node) → IsNode m u → Path (Precedes m) u us → k.at_most (k.plus (out (code_of u)) (widths (u ∷ us))) longest
    chain_at_most u [] here path =
        rw (laws.plus_zero (node_width w u), sym (weighs_as_wide u here)) (is_join.above (code_of u) (code_below m u here))
    chain_at_most u (x ∷ us) here path =
        let there : IsNode m x = second_is_node lawful path.0 in
        let step : k.at_most (k.plus (out (code_of u)) (node_width w u)) (out (code_of x)) =
        rw (sym (weighs_as_wide u here))
        (step_weighs laws weight R (code_of x) (code_of u) _ _ (step_by_numbers lawful R only all x u path.0) (heaviest (code_of u) (code_below m u here)) (heaviest (code_of x) (code_below m x there)))
        in
        rw (sym (laws.plus_assoc (out (code_of u)) (node_width w u) (widths (x ∷ us))))
        (laws.at_most_trans _ _ _ (laws.plus_keeps _ _ (widths (x ∷ us)) step) (chain_at_most x us there path.1))

    above : (us : List Node) → Chain m us → k.at_most (widths us) longest
    above [] chain = laws.zero_least longest
    above (u ∷ us) chain = laws.at_most_trans _ _ _ (at_most_plus_right laws (out (code_of u)) _) (chain_at_most u us chain.0 chain.1)

    in_of : (u : ℕ) → u < 2 * m.order.count → In k m w (node u) (out u)
    in_of u below = in_of_paths lawful R only all laws w weight weighs u (out u) (heaviest u below)

    module _ (b : V) (every : (us : List Node) → Chain m us → k.at_most (widths us) b) where
      node_at_most : (u : ℕ) → u < 2 * m.order.count → IsNode m (node u) → k.at_most (k.plus (out u) (node_width w (node u))) b
      node_at_most u below here =
          (join_shift laws widths (out u) (node_width w (node u)) [] tt (in_of u below)).least b
          (λ us into. subst (λ (x : V). k.at_most x b) (total_more laws (node_width w) us (node u)) (every (us ++ node u ∷ []) (chain_more lawful (node u) us here into)))

      other_at_most : (u : ℕ) → u < 2 * m.order.count → (IsNode m (node u) → ⊥) → k.at_most (k.plus (out u) (node_width w (node u))) b
      other_at_most u below not =
          let a = as_wide_as_cell m.order.count w u below in
          let bare : k.at_most (out u) k.zero = (in_of u below).least k.zero (none_into lawful laws w (node u) not) in
          let alone : k.at_most (w a.0) b = subst (λ (x : V). k.at_most x b) (laws.plus_zero (w a.0)) (every (cell a.0 ∷ []) (a.1, tt)) in
          laws.at_most_trans _ _ _ (laws.plus_keeps _ _ (node_width w (node u)) bare)
          (rw (zero_plus laws (node_width w (node u)), a.2) alone)

      each_at_most : (u : ℕ) → u < 2 * m.order.count → k.at_most (k.plus (out u) (weight u)) b
      each_at_most u below =
          rw (weighs u below)
          (elim (node? lawful (node u)) [ yes here ↦ node_at_most u below here | no not ↦ other_at_most u below not ])

    pub longest_of_paths : Longest k m w longest
    longest_of_paths = record { above = above; least = λ b every. is_join.least b (each_at_most b every) }
