-- No placement is narrower: in each, the cells and the images stand apart along every chain, so that it fits into the span.
use Rattle.std.proofs.Common.{◌≡◌, ℕ, sym, ap, ◌∙◌}
use Rattle.length.specs.Kind.{Kind, Laws}
use Rattle.length.proofs.Algebra.{equal_at_most, at_most_plus_right, plus_keeps_left, minus_plus}
use Rattle.placement.specs.Meaning.{Meaning, Lawful}
use Rattle.placement.specs.Placements.{Sizes, Placement}
use Rattle.placement.specs.Across.{Node, cell, image, IsNode, Image, of_mate, of_free, node_width, Precedes, straight, mirrored, Longest}
use Rattle.placement.proofs.Images.{image_is_wide}
use Rattle.placement.proofs.StandingApart.{chain_fits}

-- where a node stands: a cell at its left edge, an image where the cell's mirror image in the span would
abbrev stand : {V : Type 0} → Kind V → (ℕ → V) → (ℕ → V) → V → Node → V
stand k w x span (cell a) = x a
stand k w x span (image a) = k.minus span (k.plus (x a) (w a))

module _ {V : Type 0} {k : Kind V} (laws : Laws k) {m : Meaning} (lawful : Lawful m) {w h x y : ℕ → V} {half : V} (sized : Sizes k m w h) (placed : Placement k m w h x y half) where
  abbrev span : V
  span = k.plus half half

  abbrev at : Node → V
  at = stand k w x span

  -- an image ends as far from the right as its cell begins from the left
  image_mirrors : {a : ℕ} {u : Node} → Image m a u → k.plus (at u) (k.plus (x a) (w a)) ≡ span
  image_mirrors (of_mate {a} {b} mate) =
      sym (laws.plus_assoc (x b) (x a) (w a))
      ∙ ap (λ (t : V). k.plus t (w a)) (laws.plus_comm (x b) (x a))
      ∙ placed.mirrored a b mate
  image_mirrors (of_free {a} free) = minus_plus laws (k.plus (x a) (w a)) span (placed.inside a free.cell)

  stand_apart : {u v : Node} → Precedes m u v → k.at_most (k.plus (at u) (node_width w u)) (at v)
  stand_apart (straight {a} {b} left) = placed.beside a b left
  stand_apart (mirrored {a} {b} {u} {v} left of_b of_a) =
      let image_of_b_ends : k.plus (k.plus (at u) (w b)) (x b) ≡ span =
      laws.plus_assoc (at u) (w b) (x b) ∙ ap (k.plus (at u)) (laws.plus_comm (w b) (x b)) ∙ image_mirrors of_b in
      let both_end : k.at_most (k.plus (k.plus (at u) (w b)) (x b)) (k.plus (at v) (k.plus (x a) (w a))) =
      equal_at_most laws _ _ (image_of_b_ends ∙ sym (image_mirrors of_a)) in
      let a_before_b : k.at_most (k.plus (at v) (k.plus (x a) (w a))) (k.plus (at v) (x b)) = plus_keeps_left laws _ _ (at v) (placed.beside a b left) in
      rw (image_is_wide sized of_b) (laws.plus_cancels _ _ (x b) (laws.at_most_trans _ _ _ both_end a_before_b))

  ends_within : (u : Node) → IsNode m u → k.at_most (k.plus (at u) (node_width w u)) span
  ends_within (cell a) here = placed.inside a here
  ends_within (image a) free =
      laws.at_most_trans _ _ _
      (plus_keeps_left laws _ _ (at (image a)) (at_most_plus_right laws (x a) (w a)))
      (equal_at_most laws _ _ (image_mirrors (of_free free)))

  pub longest_fits : (t : V) → Longest k m w t → k.at_most (k.upper t) half
  longest_fits t longest = laws.upper_least t half (longest.least span (chain_fits laws at (λ u v. stand_apart) lawful span ends_within))
