-- A loop downward gives a forbidden couple: its free cells drop out, and what is left climbs from a cell of the group to
-- the same cell, or to its mate and from there on to the cell.
use Rattle.std.proofs.Common.{◌≡◌, ℕ, ◌⊎◌, List, [], ◌∷◌, ◌++◌, map, sym, refl, subst, subst₂, inl, inr}
use Rattle.book.specs.Order.{AboveOf}
use Rattle.placement.specs.Walks.{Walk, Loop}
use Rattle.placement.specs.Meaning.{Meaning, Cell, Free, Lawful}
use Rattle.placement.specs.Downward.{Under}
use Rattle.placement.specs.Theorems.{Unclean, DownwardLoopForbids}
use Rattle.book.specs.Orders.{above_not_self, above_trans}
use Rattle.placement.proofs.Walking.{walk_map, walk_join}
use Rattle.placement.proofs.FourPoints.{Either}
use Rattle.placement.proofs.NoLoop.{no_loop}
use Rattle.placement.proofs.PassedOver.{kept_loop}
use Rattle.placement.proofs.Mates.{mate_only, mate_not_free, grouped_or_free, Member, member, other, other_mate, other_other, Above, Above', above_left, mirrored_above_left, stack_couple, side_couple}

under_from_cell : {m : Meaning} {a b : ℕ} → Under m a b → Cell m a
under_from_cell (inl h) = h.apart.a_in
under_from_cell (inr (c, mate, h)) = mate.cell

pub under_to_cell : {m : Meaning} {a b : ℕ} → Under m a b → Cell m b
under_to_cell (inl h) = h.apart.b_in
under_to_cell (inr (c, mate, h)) = h.apart.b_in

module _ {m : Meaning} (lawful : Lawful m) where
  -- Free cells

  from_free : (x y : ℕ) → Free m x → Under m x y → AboveOf m.order x y
  from_free x y f (inl h) = h
  from_free x y f (inr (c, mate, h)) = absurd (mate_not_free mate f)

  skip_free : (u x y : ℕ) → Free m x → Under m u x → Under m x y → Under m u y
  skip_free u x y f (inl h) k = inl (above_trans lawful.laws h (from_free x y f k))
  skip_free u x y f (inr (c, mate, h)) k = inr (c, mate, above_trans lawful.laws h (from_free x y f k))

  kept_or_free : (x y : ℕ) → Under m x y → ((u : Member m) × (u.0 ≡ x)) ⊎ Free m x
  kept_or_free x y h =
      elim (grouped_or_free m x (under_from_cell h)) [
        | inl (b, mate) ↦ inl (member mate, refl)
        | inr free ↦ inr free
      ]

  -- Cells of the group

  abbrev Step : Member m → Member m → Type 0
  Step = Either (Above lawful) (Above' lawful)

  abbrev opposite : Member m → Member m
  opposite = other lawful

  no_round : (u : Member m) (xs : List (Member m)) → Walk Step u xs u → Unclean m
  no_round u xs h =
      no_loop (above_left lawful) (mirrored_above_left lawful)
      (record { opposed_P = λ {u} {v}. stack_couple lawful u v; opposed_Q = λ {u} {v}. side_couple lawful u v })
      u xs h

  step_mirrored : (u v : Member m) → Step u v → Step (opposite u) (opposite v)
  step_mirrored u v (inl p) = inr (subst₂ (Above lawful) (sym (other_other lawful u)) (sym (other_other lawful v)) p)
  step_mirrored u v (inr p) = inl p

  -- one step down leads by one step to the cell, or to its mate
  climb_one : (u v : Member m) → Under m u.0 v.0 → Step u v ⊎ Step u (opposite v)
  climb_one u v (inl h) = inl (inl h)
  climb_one u v (inr (c, mate, h)) =
      let h' : AboveOf m.order (opposite u).0 v.0 = subst (λ (x : ℕ). AboveOf m.order x v.0) (mate_only mate (other_mate lawful u)) h in
      inr (inr (subst (λ (x : Member m). Above lawful (opposite u) x) (sym (other_other lawful v)) h'))

  -- from u to w, or to its mate
  abbrev Climb : Member m → Member m → Type 0
  Climb u w = (xs : List (Member m)) × (Walk Step u xs w ⊎ Walk Step u xs (opposite w))

  mirrored_walk : (u : Member m) (xs : List (Member m)) (w : Member m) → Walk Step u xs w → Walk Step (opposite u) (map opposite xs) (opposite w)
  mirrored_walk u xs w h = walk_map Step Step opposite step_mirrored u xs w h

  mirrored_walk_back : (u : Member m) (xs : List (Member m)) (w : Member m) → Walk Step u xs (opposite w) → Walk Step (opposite u) (map opposite xs) w
  mirrored_walk_back u xs w h =
      subst (λ (x : Member m). Walk Step (opposite u) (map opposite xs) x) (other_other lawful w) (mirrored_walk u xs (opposite w) h)

  climb_on : (u v w : Member m) → Step u v ⊎ Step u (opposite v) → Climb v w → Climb u w
  climb_on u v w (inl p) (xs, inl q) = (v ∷ xs, inl (p, q))
  climb_on u v w (inl p) (xs, inr q) = (v ∷ xs, inr (p, q))
  climb_on u v w (inr p) (xs, inl q) = (opposite v ∷ map opposite xs, inr (p, mirrored_walk v xs w q))
  climb_on u v w (inr p) (xs, inr q) = (opposite v ∷ map opposite xs, inl (p, mirrored_walk_back v xs w q))

  climb : (u w : Member m) (xs : List (Member m)) → Walk (λ a b. Under m a.0 b.0) u xs w → Climb u w
  climb u w [] h = elim (climb_one u w h) [ inl p ↦ ([], inl p) | inr p ↦ ([], inr p) ]
  climb u w (x ∷ xs) h = climb_on u x w (climb_one u x h.0) (climb x w xs h.1)

  -- once round, or twice
  close : (u : Member m) → Climb u u → Unclean m
  close u (xs, inl q) = no_round u xs q
  close u (xs, inr q) =
      no_round u (xs ++ opposite u ∷ map opposite xs) (walk_join Step u xs (opposite u) (map opposite xs) u q (mirrored_walk_back u xs u q))

  forbids : (us : List ℕ) → Loop (Under m) us → Unclean m
  forbids us h =
      elim (kept_loop (Under m) (Free m) (λ (u : Member m). u.0) kept_or_free skip_free us h) [
        | inl (u, free, step) ↦ absurd (above_not_self (from_free u u free step))
        | inr (u, ys, round) ↦ close u (climb u u ys round)
      ]

pub downward_loop_forbids_lem : DownwardLoopForbids
downward_loop_forbids_lem m lawful us h = forbids lawful us h
