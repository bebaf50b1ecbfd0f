-- On a lawful clean sheet the chains into each node have a join, and so have all chains.
use Rattle.std.proofs.Common.{ℕ, ◌*◌, ◌≤◌, List, [], ◌∷◌, reverse, length, subst, arith}
use Rattle.length.specs.Kind.{Kind, Laws}
use Rattle.length.specs.Join.{IsJoin}
use Rattle.length.proofs.Joins.{join_same}
use Rattle.placement.specs.Walks.{Path}
use Rattle.placement.specs.Meaning.{Meaning, Lawful}
use Rattle.placement.specs.Couples.{Clean}
use Rattle.placement.specs.Downward.{total}
use Rattle.placement.specs.Across.{Node, IsNode, node_width, Precedes, Chain, Into, In, Longest}
use Rattle.placement.proofs.Images.{first_is_node, second_is_node}
use Rattle.placement.proofs.FiniteJoins.{Headed, headed_join}
use Rattle.placement.proofs.PathJoins.{path_join}
use Rattle.placement.proofs.Backwards.{Against, walk_to_backwards, path_from_backwards, length_backwards, total_backwards}
use Rattle.placement.proofs.Chains.{into_is_walk, walk_is_into, into_is_chain}
use Rattle.placement.proofs.ShortChains.{nodes, entry_nodes, chain_is_short}
use Rattle.placement.proofs.AcrossSteps.{node?, precedes?}

module _ {m : Meaning} (lawful : Lawful m) {V : Type 0} {k : Kind V} (laws : Laws k) (clean : Clean m) (w : ℕ → V) where
  -- Chains into a node, read backwards, are paths from it against the steps

  abbrev Back : Node → Node → Type 0
  Back = Against (Precedes m)

  abbrev widths : List Node → V
  widths = total k (node_width w)

  path_into : (v : Node) (us : List Node) → Path Back v us → Into m v (reverse us)
  path_into v us p = walk_is_into m v (reverse us) (path_from_backwards (Precedes m) v us p)

  path_back_is_short : (v : Node) (us : List Node) → Path Back v us → length us ≤ 2 * m.order.count
  path_back_is_short v us p =
      let short = chain_is_short m lawful clean (reverse us) (into_is_chain lawful v (reverse us) (path_into v us p)) in
      subst (λ (n : ℕ). n ≤ 2 * m.order.count) (length_backwards us) short

  back_join : (v : Node) → (t : V) × IsJoin k (Path Back v) widths t
  back_join v =
      path_join laws (node_width w) Back (λ u x. precedes? lawful x u) (nodes m) (λ u x step. entry_nodes m x (first_is_node lawful step)) (2 * m.order.count)
      path_back_is_short v

  pub in_exists : (v : Node) → (t : V) × In k m w v t
  in_exists v =
      let r = back_join v in (
        r.0,
        record {
          above = λ us h.
              subst (λ (x : V). k.at_most x r.0) (total_backwards laws (node_width w) us)
              (r.1.above (reverse us) (walk_to_backwards (Precedes m) v us (into_is_walk m v us h)));
          least = λ b every. r.1.least b
              (λ us p. subst (λ (x : V). k.at_most x b) (total_backwards laws (node_width w) us)
              (every (reverse us) (path_into v us p)));
        },
      )

  -- All chains

  path_onward_is_short : (u : Node) (us : List Node) → Path (Precedes m) u us → length us ≤ 2 * m.order.count
  path_onward_is_short u [] p = omega arith
  path_onward_is_short u (x ∷ us) p = chain_is_short m lawful clean (x ∷ us) (second_is_node lawful p.0, p.1)

  onward_join : (u : Node) → (t : V) × IsJoin k (Path (Precedes m) u) widths t
  onward_join u =
      path_join laws (node_width w) (Precedes m) (precedes? lawful) (nodes m) (λ x v step. entry_nodes m v (second_is_node lawful step)) (2 * m.order.count)
      path_onward_is_short u

  headed_chain : (us : List Node) → Headed (IsNode m) (Path (Precedes m)) us → Chain m us
  headed_chain [] h = tt
  headed_chain (u ∷ us) h = h

  chain_headed : (us : List Node) → Chain m us → Headed (IsNode m) (Path (Precedes m)) us
  chain_headed [] h = tt
  chain_headed (u ∷ us) h = h

  pub longest_exists : (t : V) × Longest k m w t
  longest_exists =
      let r = headed_join laws (node_width w) (IsNode m) (node? lawful) (nodes m) (entry_nodes m) (Path (Precedes m)) (λ u. tt) (λ u. (onward_join u).0) (λ u. (onward_join u).1) in
      (r.0, join_same headed_chain chain_headed r.1)
