-- Whether a node precedes another is decided, and so is whether a node is one of the sheet.
use Rattle.std.proofs.Common.{◌≡◌, ℕ, ◌⊎◌, refl, subst₂, inl, inr}
use native.Mathlib.Decide.{dec_lt}
use Rattle.book.specs.Order.{LeftOf}
use Rattle.placement.specs.Meaning.{Meaning, Free, Lawful}
use Rattle.placement.specs.Across.{Node, cell, image, IsNode, Image, of_mate, of_free, Precedes, straight, mirrored}
use Rattle.book.specs.Orders.{left?}
use Rattle.placement.proofs.Mates.{mate_only, mate_not_free, grouped_or_free}
use Rattle.placement.proofs.Images.{image_is_node}

module _ {m : Meaning} (lawful : Lawful m) where
  image_of_one : {a b : ℕ} {u : Node} → Image m a u → Image m b u → a ≡ b
  image_of_one (of_mate h) (of_mate k) = mate_only (lawful.both_ways _ _ h) (lawful.both_ways _ _ k)
  image_of_one (of_free h) (of_free k) = refl

  free? : (a : ℕ) → Dec (Free m a)
  free? a =
      elim (dec_lt a m.order.count) [
        | no outside ↦ no (λ free. outside free.cell)
        | yes here ↦ elim (grouped_or_free m a here) [ inl (b, mate) ↦ no (λ free. mate_not_free mate free) | inr free ↦ yes free ]
      ]

  pub node? : (u : Node) → Dec (IsNode m u)
  node? (cell a) = dec_lt a m.order.count
  node? (image a) = free? a

  free_has_no_image_cell : {a b : ℕ} → Free m b → Image m a (cell b) → ⊥
  free_has_no_image_cell free (of_mate mate) = mate_not_free (lawful.both_ways _ _ mate) free

  -- the cell that a node is the image of
  image_of? : (u : Node) → Dec ((a : ℕ) × Image m a u)
  image_of? (cell b) =
      elim (dec_lt b m.order.count) [
        | no outside ↦ no (λ of. outside (image_is_node lawful of.1))
        | yes here ↦
            elim (grouped_or_free m b here) [
              | inl (a, mate) ↦ yes (a, of_mate (lawful.both_ways b a mate))
              | inr free ↦ no (λ of. free_has_no_image_cell free of.1)
            ]
      ]
  image_of? (image a) = elim (free? a) [ yes free ↦ yes (a, of_free free) | no not ↦ no (λ of. not (image_is_node lawful of.1)) ]

  abbrev Straight : Node → Node → Type 0
  Straight (cell a) (cell b) = LeftOf m.order a b
  Straight (cell a) (image b) = ⊥
  Straight (image a) v = ⊥

  abbrev Mirrored : Node → Node → Type 0
  Mirrored u v = (a : ℕ) × (b : ℕ) × LeftOf m.order a b × Image m b u × Image m a v

  straight? : (u v : Node) → Dec (Straight u v)
  straight? (cell a) (cell b) = left? lawful.laws a b
  straight? (cell a) (image b) = no (λ h. h)
  straight? (image a) v = no (λ h. h)

  mirrored? : (u v : Node) → Dec (Mirrored u v)
  mirrored? u v = go (image_of? u) (image_of? v)
    where
      go : Dec ((b : ℕ) × Image m b u) → Dec ((a : ℕ) × Image m a v) → Dec (Mirrored u v)
      go (no none) _ = no (λ (a, b, h, of_b, of_a). none (b, of_b))
      go (yes _) (no none) = no (λ (a, b, h, of_b, of_a). none (a, of_a))
      go (yes (b, of_b)) (yes (a, of_a)) =
          elim (left? lawful.laws a b) [
            | yes h ↦ yes (a, b, h, of_b, of_a)
            | no not ↦ no (λ (c, d, h, of_d, of_c). not (subst₂ (LeftOf m.order) (image_of_one of_c of_a) (image_of_one of_d of_b) h))
          ]

  precedes_parts : {u v : Node} → Precedes m u v → Straight u v ⊎ Mirrored u v
  precedes_parts (straight h) = inl h
  precedes_parts (mirrored {a} {b} h of_b of_a) = inr (a, b, h, of_b, of_a)

  straight_precedes : (u v : Node) → Straight u v → Precedes m u v
  straight_precedes (cell a) (cell b) h = straight h
  straight_precedes (cell a) (image b) h = absurd h
  straight_precedes (image a) v h = absurd h

  pub precedes? : (u v : Node) → Dec (Precedes m u v)
  precedes? u v = go (straight? u v) (mirrored? u v)
    where
      go : Dec (Straight u v) → Dec (Mirrored u v) → Dec (Precedes m u v)
      go (yes h) _ = yes (straight_precedes u v h)
      go (no not) (yes (a, b, h, of_b, of_a)) = yes (mirrored h of_b of_a)
      go (no not) (no neither) = no (λ step. elim (precedes_parts step) [ inl h ↦ not h | inr h ↦ neither h ])
