-- Images of cells: each cell has one, it is a node and as wide as the cell; and whatever precedes or is preceded is a node.
use Rattle.std.proofs.Common.{◌≡◌, ℕ, Some, None, Option, sym, refl, ap, inl, inr}
use Rattle.length.specs.Kind.{Kind}
use Rattle.placement.specs.Meaning.{Meaning, Cell, Lawful}
use Rattle.placement.specs.Placements.{Sizes}
use Rattle.placement.specs.Across.{Node, cell, image, IsNode, Image, of_mate, of_free, node_width, Precedes, straight, mirrored}
use Rattle.placement.proofs.Mates.{grouped_or_free}

-- the node that is a cell's image, by what is told of its mate
abbrev pub facing : ℕ → Option ℕ → Node
facing a (Some b) = cell b
facing a None = image a

pub facing_is_image : {m : Meaning} {a : ℕ} {u : Node} → Image m a u → facing a (m.mate a) ≡ u
facing_is_image (of_mate {a} mate) = ap (facing a) mate.told
facing_is_image (of_free {a} free) = ap (facing a) free.told

pub has_image : (m : Meaning) (a : ℕ) → Cell m a → (u : Node) × Image m a u
has_image m a here =
    elim (grouped_or_free m a here) [ inl grouped ↦ (cell grouped.0, of_mate grouped.1) | inr free ↦ (image a, of_free free) ]

pub image_is_node : {m : Meaning} {a : ℕ} {u : Node} → Lawful m → Image m a u → IsNode m u
image_is_node lawful (of_mate {a} {b} mate) = (lawful.both_ways a b mate).cell
image_is_node lawful (of_free free) = free

pub image_is_wide : {V : Type 0} {k : Kind V} {m : Meaning} {w h : ℕ → V} {a : ℕ} {u : Node} → Sizes k m w h → Image m a u → node_width w u ≡ w a
image_is_wide sized (of_mate {a} {b} mate) = sym (sized.same_width a b mate)
image_is_wide sized (of_free free) = refl

pub first_is_node : {m : Meaning} {u v : Node} → Lawful m → Precedes m u v → IsNode m u
first_is_node lawful (straight left) = left.apart.a_in
first_is_node lawful (mirrored left of_b of_a) = image_is_node lawful of_b

pub second_is_node : {m : Meaning} {u v : Node} → Lawful m → Precedes m u v → IsNode m v
second_is_node lawful (straight left) = left.apart.b_in
second_is_node lawful (mirrored left of_b of_a) = image_is_node lawful of_a
