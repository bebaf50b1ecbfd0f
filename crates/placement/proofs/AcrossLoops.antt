-- A loop across gives a forbidden couple: free cells and images drop out, and between cells of the group a step goes to
-- a cell on the right, or from the mate of a cell on the right.
use Rattle.std.proofs.Common.{◌≡◌, ◌⊎◌, List, refl, subst₂, inl, inr}
use Rattle.book.specs.Order.{LeftOf}
use Rattle.placement.specs.Walks.{Walk, Loop}
use Rattle.placement.specs.Meaning.{Meaning, Free, Lawful}
use Rattle.placement.specs.Across.{Node, cell, image, of_mate, of_free, Precedes, straight, mirrored}
use Rattle.placement.specs.Theorems.{Unclean, LoopAcrossForbids}
use Rattle.book.specs.Orders.{left_not_self, left_trans}
use Rattle.placement.proofs.Images.{first_is_node}
use Rattle.placement.proofs.Walking.{walk_same}
use Rattle.placement.proofs.FourPoints.{Either, exchange}
use Rattle.placement.proofs.NoLoop.{no_loop}
use Rattle.placement.proofs.PassedOver.{kept_loop}
use Rattle.placement.proofs.Mates.{mate_only, mate_not_free, grouped_or_free, Member, member, other_mate, Left, Left', above_left, mirrored_above_left, stack_couple, side_couple}

-- a free cell, or an image
abbrev FreeNode : Meaning → Node → Type 0
FreeNode m (cell a) = Free m a
FreeNode m (image a) = Unit {0}

module _ {m : Meaning} (lawful : Lawful m) where
  -- Free cells and images

  skip_free : (u x y : Node) → FreeNode m x → Precedes m u x → Precedes m x y → Precedes m u y
  skip_free u (cell p) y f (straight h) (straight k) = straight (left_trans lawful.laws h k)
  skip_free u (cell p) y f (straight h) (mirrored k (of_mate mate) _) = absurd (mate_not_free (lawful.both_ways _ _ mate) f)
  skip_free u (cell p) y f (mirrored h _ (of_mate mate)) k = absurd (mate_not_free (lawful.both_ways _ _ mate) f)
  skip_free u (image p) y f (mirrored h from (of_free _)) (mirrored k (of_free _) to) = mirrored (left_trans lawful.laws k h) from to

  free_not_to_itself : (u : Node) → FreeNode m u → Precedes m u u → ⊥
  free_not_to_itself (cell p) f (straight h) = left_not_self h
  free_not_to_itself (cell p) f (mirrored h _ (of_mate mate)) = mate_not_free (lawful.both_ways _ _ mate) f
  free_not_to_itself (image p) f (mirrored h (of_free _) (of_free _)) = left_not_self h

  kept_or_free : (x y : Node) → Precedes m x y → ((u : Member m) × (cell u.0 ≡ x)) ⊎ FreeNode m x
  kept_or_free (cell a) y h =
      elim (grouped_or_free m a (first_is_node lawful h)) [
        | inl (b, mate) ↦ inl (member mate, refl)
        | inr free ↦ inr free
      ]
  kept_or_free (image a) y h = inr tt

  -- Cells of the group

  abbrev Step : Member m → Member m → Type 0
  Step = Either (Left lawful) (Left' lawful)

  no_round : (u : Member m) (xs : List (Member m)) → Walk Step u xs u → Unclean m
  no_round u xs h =
      no_loop (exchange (above_left lawful)) (exchange (mirrored_above_left lawful))
      (record { opposed_P = λ {u} {v}. side_couple lawful u v; opposed_Q = λ {u} {v}. stack_couple lawful u v })
      u xs h

  group_step : (u v : Member m) → Precedes m (cell u.0) (cell v.0) → Step u v
  group_step u v (straight h) = inl h
  group_step u v (mirrored h (of_mate to_u) (of_mate to_v)) =
      inr (subst₂ (LeftOf m.order)
      (mate_only (lawful.both_ways _ _ to_v) (other_mate lawful v))
      (mate_only (lawful.both_ways _ _ to_u) (other_mate lawful u))
      h)

  forbids : (us : List Node) → Loop (Precedes m) us → Unclean m
  forbids us h =
      elim (kept_loop (Precedes m) (FreeNode m) (λ (u : Member m). cell u.0) kept_or_free skip_free us h) [
        | inl (u, free, step) ↦ absurd (free_not_to_itself u free step)
        | inr (u, ys, round) ↦ no_round u ys (walk_same _ Step group_step u ys u round)
      ]

pub loop_across_forbids_lem : LoopAcrossForbids
loop_across_forbids_lem m lawful us h = forbids lawful us h
