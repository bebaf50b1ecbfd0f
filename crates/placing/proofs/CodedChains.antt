-- Chains by numbers: where steps go from the number of a node to those of the nodes that precede it, the paths from a
-- number are the chains into its node, read backwards.
use Rattle.std.proofs.Common.{◌≡◌, ℕ, ◌*◌, ◌<◌, ◌≤◌, List, [], ◌∷◌, map, reverse, length, sym, refl, ◌∙◌, subst, ap₂, arith}
use lib.ListN.{length-map}
use Rattle.length.specs.Kind.{Kind, Laws}
use Rattle.length.specs.Join.{IsJoin}
use Rattle.placement.specs.Walks.{Path}
use Rattle.placement.specs.Meaning.{Meaning, Lawful}
use Rattle.placement.specs.Couples.{Clean}
use Rattle.placement.specs.Downward.{total}
use Rattle.placement.specs.Across.{Node, node_width, Precedes, Into, In}
use Rattle.placement.proofs.Images.{first_is_node, second_is_node}
use Rattle.placement.proofs.Paths.{path_map}
use Rattle.placement.proofs.Backwards.{Against, walk_to_backwards, path_from_backwards, length_backwards, total_backwards}
use Rattle.placement.proofs.Chains.{into_is_walk, walk_is_into, into_is_chain}
use Rattle.placement.proofs.ShortChains.{chain_is_short}
use Rattle.placing.specs.Codes.{node_of}
use Rattle.placing.proofs.NodeCodes.{code, code_of_node, node_of_code, code_below, number_below}

module _ {m : Meaning} (lawful : Lawful m) (R : ℕ → ℕ → Type 0)
    (only : (v u : ℕ) → R v u → Precedes m (node_of m.order.count u) (node_of m.order.count v))
    (all : (v u : ℕ) → Precedes m (node_of m.order.count u) (node_of m.order.count v) → R v u)
  where
    abbrev node : ℕ → Node
    node = node_of m.order.count

    abbrev number : Node → ℕ
    number = code m.order.count

    abbrev Back : Node → Node → Type 0
    Back = Against (Precedes m)

    pub step_by_numbers : (v u : Node) → Precedes m u v → R (number v) (number u)
    step_by_numbers v u step =
        all (number v) (number u)
        (rw (node_of_code m u (first_is_node lawful step), node_of_code m v (second_is_node lawful step)) step)

    path_into : (v : ℕ) (us : List ℕ) → Path R v us → Into m (node v) (reverse (map node us))
    path_into v us path =
        walk_is_into m (node v) (reverse (map node us))
        (path_from_backwards (Precedes m) (node v) (map node us) (path_map R Back node only v us path))

    into_back : (v : Node) (us : List Node) → Into m v us → Path Back v (reverse us)
    into_back v us into = walk_to_backwards (Precedes m) v us (into_is_walk m v us into)

    into_path : (v : ℕ) (us : List Node) → Into m (node v) us → Path R v (map number (reverse us))
    into_path v us into =
        subst (λ (u : ℕ). Path R u (map number (reverse us))) (code_of_node m.order.count v)
        (path_map Back R number step_by_numbers (node v) (reverse us) (into_back (node v) us into))

    pub path_is_short : Clean m → (v : ℕ) (us : List ℕ) → Path R v us → length us ≤ 2 * m.order.count
    path_is_short clean v us path =
        let chain = reverse (map node us) in
        let short = chain_is_short m lawful clean chain (into_is_chain lawful (node v) chain (path_into v us path)) in
        omega (arith, length_backwards (map node us), length-map us node)

    module _ {V : Type 0} {k : Kind V} (laws : Laws k) (w weight : ℕ → V)
        (weighs : (u : ℕ) → u < 2 * m.order.count → weight u ≡ node_width w (node u))
      where
        abbrev widths : List Node → V
        widths = total k (node_width w)

        path_widths : (v : ℕ) (us : List ℕ) → Path R v us → total k weight us ≡ widths (map node us)
        path_widths v [] path = refl
        path_widths v (u ∷ us) path =
            ap₂ k.plus (weighs u (number_below m u (first_is_node lawful (only v u path.0)))) (path_widths u us path.1)

        back_weights : (v : Node) (us : List Node) → Path Back v us → total k weight (map number us) ≡ widths us
        back_weights v [] path = refl
        back_weights v (u ∷ us) path =
            let here = first_is_node lawful path.0 in
            ap₂ k.plus
            (weighs (number u) (code_below m u here) ∙ rw (node_of_code m u here))
            (back_weights u us path.1)

        pub in_of_paths : (v : ℕ) (t : V) → IsJoin k (Path R v) (total k weight) t → In k m w (node v) t
        in_of_paths v t so = record {
          above = λ us into.
              subst (λ (x : V). k.at_most x t)
              (back_weights (node v) (reverse us) (into_back (node v) us into) ∙ total_backwards laws (node_width w) us)
              (so.above (map number (reverse us)) (into_path v us into));
          least = λ b every. so.least b
              (λ us path. subst (λ (x : V). k.at_most x b)
              (total_backwards laws (node_width w) (map node us) ∙ sym (path_widths v us path))
              (every (reverse (map node us)) (path_into v us path)));
        }
