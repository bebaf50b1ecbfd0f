-- Chains mirrored and joined: a chain into a cell, the cell, and a chain into its image mirrored make one chain.
use Rattle.std.proofs.Common.{◌≡◌, ℕ, List, [], ◌∷◌, ◌++◌, map, reverse, sym, refl, ap, ◌∙◌, subst, ap₂}
use Rattle.length.specs.Kind.{Kind, Laws}
use Rattle.length.proofs.Joins.{join_shift}
use Rattle.placement.specs.Walks.{Path}
use Rattle.placement.specs.Meaning.{Meaning, Cell, Lawful}
use Rattle.placement.specs.Placements.{Sizes}
use Rattle.placement.specs.Downward.{total}
use Rattle.placement.specs.Across.{Node, cell, image, IsNode, Image, of_mate, of_free, node_width, Precedes, straight, mirrored, Chain, Into, In, Longest}
use Rattle.placement.proofs.Images.{facing, facing_is_image, has_image, image_is_wide, first_is_node}
use Rattle.placement.proofs.Totals.{total-append, total_more}
use Rattle.placement.proofs.Walking.{walk_join}
use Rattle.placement.proofs.Paths.{path_map, walk_then_path}
use Rattle.placement.proofs.Backwards.{Against, walk_to_backwards, total_backwards}
use Rattle.placement.proofs.Chains.{into_is_walk, walk_from_node}

-- Nodes mirrored

-- the image of a cell, or the cell of an image
abbrev mirror : Meaning → Node → Node
mirror m (cell a) = facing a (m.mate a)
mirror m (image a) = cell a

mirror_of_image : {m : Meaning} {a : ℕ} {u : Node} → Lawful m → Image m a u → mirror m u ≡ cell a
mirror_of_image lawful (of_mate {a} {b} mate) = ap (facing b) (lawful.both_ways a b mate).told
mirror_of_image lawful (of_free free) = refl

mirror_is_image : (m : Meaning) (a : ℕ) → Cell m a → Image m a (mirror m (cell a))
mirror_is_image m a here = let its = has_image m a here in subst (Image m a) (sym (facing_is_image its.1)) its.1

mirror_is_wide : {V : Type 0} {k : Kind V} {m : Meaning} {w h : ℕ → V} → Sizes k m w h → (u : Node) → IsNode m u → node_width w (mirror m u) ≡ node_width w u
mirror_is_wide {m = m} sized (cell a) here = image_is_wide sized (mirror_is_image m a here)
mirror_is_wide sized (image a) free = refl

-- a step mirrored goes the other way
mirror_turns : {m : Meaning} {u v : Node} → Lawful m → Precedes m u v → Precedes m (mirror m v) (mirror m u)
mirror_turns {m} lawful (straight {a} {b} left) = mirrored left (mirror_is_image m b left.apart.b_in) (mirror_is_image m a left.apart.a_in)
mirror_turns lawful (mirrored left of_b of_a) = rw (mirror_of_image lawful of_a, mirror_of_image lawful of_b) (straight left)

-- Chains into a node

into_more : {m : Meaning} (u v : Node) (us : List Node) → Precedes m u v → Into m u us → Into m v (us ++ u ∷ [])
into_more u v [] step into = step
into_more {m} u v (x ∷ us) step into = walk_join (Precedes m) x us u [] v into step

module _ {m : Meaning} (lawful : Lawful m) where
  into_then_path : (v : Node) (us vs : List Node) → IsNode m v → Into m v us → Path (Precedes m) v vs → Chain m (us ++ v ∷ vs)
  into_then_path v [] vs here into path = (here, path)
  into_then_path v (u ∷ us) vs here into path = (walk_from_node lawful u us v into, walk_then_path (Precedes m) u us v vs into path)

  into_backwards : (v : Node) (us : List Node) → Into m v us → Path (Against (Precedes m)) v (reverse us)
  into_backwards v us into = walk_to_backwards (Precedes m) v us (into_is_walk m v us into)

  into_mirrored : (v : Node) (us : List Node) → Into m v us → Path (Precedes m) (mirror m v) (map (mirror m) (reverse us))
  into_mirrored v us into = path_map (Against (Precedes m)) (Precedes m) (mirror m) (λ u x. mirror_turns lawful) v (reverse us) (into_backwards v us into)

-- Width sums

module _ {V : Type 0} {k : Kind V} (laws : Laws k) {m : Meaning} (lawful : Lawful m) {w h : ℕ → V} (sized : Sizes k m w h) where
  abbrev widths : List Node → V
  widths = total k (node_width w)

  path_mirrored_widths : (v : Node) (us : List Node) → Path (Against (Precedes m)) v us → widths (map (mirror m) us) ≡ widths us
  path_mirrored_widths v [] path = refl
  path_mirrored_widths v (u ∷ us) path =
      ap₂ k.plus (mirror_is_wide sized u (first_is_node lawful path.0)) (path_mirrored_widths u us path.1)

  into_mirrored_widths : (v : Node) (us : List Node) → Into m v us → widths (map (mirror m) (reverse us)) ≡ widths us
  into_mirrored_widths v us into = path_mirrored_widths v (reverse us) (into_backwards lawful v us into) ∙ total_backwards laws (node_width w) us

  -- what precedes a node ends at its in or before
  pub in_steps : (u v : Node) (s t : V) → Precedes m u v → In k m w u s → In k m w v t → k.at_most (k.plus s (node_width w u)) t
  in_steps u v s t step in-u in-v =
      (join_shift laws widths s (node_width w u) [] tt in-u).least t
      (λ us into. rw (sym (total_more laws (node_width w) us u)) (in-v.above (us ++ u ∷ []) (into_more u v us step into)))

  -- a chain into a cell and one into its image, with the cell between
  both_ways_at_most_longest : (a : ℕ) (u : Node) (us vs : List Node) (longest : V) → Cell m a → Image m a u → Into m (cell a) us → Into m u vs → Longest k m w longest → k.at_most (k.plus (widths us) (k.plus (w a) (widths vs))) longest
  both_ways_at_most_longest a u us vs longest here its into_a into_u is_longest =
      let back : List Node = map (mirror m) (reverse vs) in
      let path : Path (Precedes m) (cell a) back = subst (λ (v : Node). Path (Precedes m) v back) (mirror_of_image lawful its) (into_mirrored lawful u vs into_u) in
      let sum : widths (us ++ cell a ∷ back) ≡ k.plus (widths us) (k.plus (w a) (widths vs)) =
      total-append laws (node_width w) us (cell a ∷ back)
      ∙ ap (λ (t : V). k.plus (widths us) (k.plus (w a) t)) (into_mirrored_widths u vs into_u)
      in
      subst (λ (t : V). k.at_most t longest) sum (is_longest.above (us ++ cell a ∷ back) (into_then_path lawful (cell a) us back here into_a path))

  -- a cell, with what must stand before it and after it, is at most the longest chain
  pub through_at_most_longest : (a : ℕ) (u : Node) (s t longest : V) → Cell m a → Image m a u → In k m w (cell a) s → In k m w u t → Longest k m w longest → k.at_most (k.plus s (k.plus (w a) t)) longest
  through_at_most_longest a u s t longest here its in-a in-u is_longest =
      let turned : (x : V) → k.plus x (k.plus s (w a)) ≡ k.plus s (k.plus (w a) x) = λ x. laws.plus_comm x (k.plus s (w a)) ∙ laws.plus_assoc s (w a) x in
      rw (sym (turned t))
      ((join_shift laws widths t (k.plus s (w a)) [] tt in-u).least longest
      (λ vs into_u.
      rw (turned (widths vs))
      ((join_shift laws widths s (k.plus (w a) (widths vs)) [] tt in-a).least longest
      (λ us into_a. both_ways_at_most_longest a u us vs longest here its into_a into_u is_longest))))
