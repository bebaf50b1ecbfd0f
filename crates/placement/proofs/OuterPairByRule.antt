-- The placement of the row whose outer two are a pair is the one that the rule gives.
use Rattle.std.proofs.Common.{◌≡◌, ℕ, ◌+◌, ◌<◌, ◌≤◌, List, [], ◌∷◌, refl, subst, subst₂, inl, inr, arith}
use Rattle.length.specs.Kind.{Laws}
use Rattle.length.specs.Kinds.{plain_kind, plain}
use Rattle.length.specs.declared.Plain.{Plain}
use Rattle.placement.specs.Meaning.{Cell}
use Rattle.placement.specs.Downward.{total, Under, Descent, Bottom, Depth}
use Rattle.placement.specs.Across.{Node, cell, image, IsNode, Image, of_mate, of_free, node_width, Precedes, straight, mirrored, In, Longest}
use Rattle.placement.specs.Rule.{RightMember, RoundsUp, middle, Given}
use Rattle.placement.specs.PlacedRow.{rank, outer_pair, widths, heights, befores, afters, lefts, bottoms, OuterPairIsPlaced}
use Rattle.placement.proofs.Images.{facing, facing_is_image}
use Rattle.placement.proofs.StandingApart.{into_fits, chain_fits}
use Rattle.placement.proofs.Lines.{left_ranks, row_none_above}
use Rattle.placement.proofs.Row.{by_three, by_left, left_0_1, left_0_2, left_2_1}
use Rattle.placement.proofs.OuterPair.{by_pair, pair_lawful, pair_clean, pair_sized, pair_placed}

-- Rounding: the right member of the pair is the cell of rank 2, and nothing is right of it

rank_at_most_two : (a : ℕ) → a < 3 → rank a ≤ 2
rank_at_most_two = by_three (λ a. rank a ≤ 2) (omega arith) (omega arith) (omega arith)

right_member_ranks : (a : ℕ) → RightMember outer_pair a → rank a ≡ 2
right_member_ranks a (b, mate, ba) =
    by_pair (λ c d. rank d < rank c → rank c ≡ 2) (λ low. absurd (omega arith)) (λ low. refl) a b mate (left_ranks rank 3 b a ba)

rounded_up_ranks : (a : ℕ) → RoundsUp outer_pair a → rank a ≡ 2
rounded_up_ranks a (inl right) = right_member_ranks a right
rounded_up_ranks a (inr (c, right, ca)) =
    let high : rank c ≡ 2 = right_member_ranks c right in
    let low : rank c < rank a = left_ranks rank 3 c a ca in
    let most : rank a ≤ 2 = rank_at_most_two a ca.apart.b_in in
    absurd (omega arith)

right_cell_rounds_up : RoundsUp outer_pair 1
right_cell_rounds_up = inl (0, record { cell = omega arith; told = refl }, left_0_1)

abbrev twice : ℕ → Plain
twice a = middle plain_kind (plain 12) (widths a) (befores a) (afters a)

lefts_up : (a : ℕ) → Cell outer_pair a → RoundsUp outer_pair a → lefts a ≡ plain_kind.upper (twice a)
lefts_up a here up =
    by_three (λ c. rank c ≡ 2 → lefts c ≡ plain_kind.upper (twice c))
    (λ e. absurd (omega arith)) (λ e. refl) (λ e. absurd (omega arith))
    a here (rounded_up_ranks a up)

lefts_down : (a : ℕ) → Cell outer_pair a → (RoundsUp outer_pair a → ⊥) → lefts a ≡ plain_kind.lower (twice a)
lefts_down =
    by_three (λ c. (RoundsUp outer_pair c → ⊥) → lefts c ≡ plain_kind.lower (twice c))
    (λ down. refl) (λ down. absurd (down right_cell_rounds_up)) (λ down. refl)

-- Downward: nothing is under anything

none_under : (a b : ℕ) → Under outer_pair a b → ⊥
none_under a b (inl ab) = row_none_above rank 3 a b ab
none_under a b (inr (c, mate, cb)) = row_none_above rank 3 c b cb

flat : (a : ℕ) → Bottom plain_kind outer_pair heights a (plain 0)
flat a = record { above = descent_is_empty; least = λ b all. all [] tt }
  where
    descent_is_empty : (us : List ℕ) → Descent outer_pair a us → (total plain_kind heights us).0 ≤ 0
    descent_is_empty [] path = omega arith
    descent_is_empty (b ∷ us) path = absurd (none_under a b path.0)

deep : Depth plain_kind outer_pair heights bottoms (plain 5)
deep = record {
  above = by_three (λ a. (bottoms a).0 + (heights a).0 ≤ 5) (omega arith) (omega arith) (omega arith);
  least = λ b all. all 0 (omega arith);
}

-- Across

-- before each node stands what its longest chain is wide; only cell 2 has an image that is no cell
abbrev at : Node → Plain
at (cell a) = befores a
at (image a) = plain 4

stand_apart : (u v : Node) → Precedes outer_pair u v → (at u).0 + (node_width widths u).0 ≤ (at v).0
stand_apart u v (straight {a} {b} ab) = by_left (λ c d. (befores c).0 + (widths c).0 ≤ (befores d).0) (omega arith) (omega arith) (omega arith) a b ab
stand_apart u v (mirrored {a} {b} ab of_b of_a) =
    subst₂ (λ (s t : Node). (at s).0 + (node_width widths s).0 ≤ (at t).0) (facing_is_image of_b) (facing_is_image of_a)
    (by_left (λ c d. (at (facing d (outer_pair.mate d))).0 + (node_width widths (facing d (outer_pair.mate d))).0 ≤ (at (facing c (outer_pair.mate c))).0)
    (omega arith) (omega arith) (omega arith) a b ab)

ends_by_11 : (u : Node) → IsNode outer_pair u → (at u).0 + (node_width widths u).0 ≤ 11
ends_by_11 (cell a) here = by_three (λ c. (befores c).0 + (widths c).0 ≤ 11) (omega arith) (omega arith) (omega arith) a here
ends_by_11 (image a) free = by_three (λ c. 4 + (widths c).0 ≤ 11) (omega arith) (omega arith) (omega arith) a free.cell

image_of_2 : Image outer_pair 2 (image 2)
image_of_2 = of_free (record { cell = omega arith; told = refl })

image_of_1 : Image outer_pair 1 (cell 0)
image_of_1 = of_mate (record { cell = omega arith; told = refl })

imaged_is_cell : (a : ℕ) (u : Node) → Image outer_pair a u → Cell outer_pair a
imaged_is_cell a u (of_mate mate) = mate.cell
imaged_is_cell a u (of_free free) = free.cell

module _ (laws : Laws plain_kind) where
  longest : Longest plain_kind outer_pair widths (plain 11)
  longest = record {
    above = chain_fits laws at stand_apart pair_lawful (plain 11) ends_by_11;
    least = λ b all. all (cell 0 ∷ cell 2 ∷ cell 1 ∷ []) (omega arith, (straight left_0_2, (straight left_2_1, tt)));
  }

  before : (a : ℕ) → Cell outer_pair a → In plain_kind outer_pair widths (cell a) (befores a)
  before =
      by_three (λ a. In plain_kind outer_pair widths (cell a) (befores a))
      (record { above = into_fits laws at stand_apart (cell 0); least = λ b all. all [] tt })
      (record { above = into_fits laws at stand_apart (cell 1); least = λ b all. all (cell 0 ∷ cell 2 ∷ []) (straight left_0_2, straight left_2_1) })
      (record { above = into_fits laws at stand_apart (cell 2); least = λ b all. all (cell 0 ∷ []) (straight left_0_2) })

  after : (a : ℕ) → Cell outer_pair a → In plain_kind outer_pair widths (facing a (outer_pair.mate a)) (afters a)
  after =
      by_three (λ a. In plain_kind outer_pair widths (facing a (outer_pair.mate a)) (afters a))
      (before 1 (omega arith))
      (before 0 (omega arith))
      (record { above = into_fits laws at stand_apart (image 2); least = λ b all. all (cell 0 ∷ []) (mirrored left_2_1 image_of_1 image_of_2) })

  by_rule : Given plain_kind outer_pair widths heights befores afters lefts bottoms (plain 6) (plain 5)
  by_rule = record {
    longest = plain 11;
    longest_is = longest;
    half_is = refl;
    before_is = before;
    after_is = λ a u its. subst (λ (v : Node). In plain_kind outer_pair widths v (afters a)) (facing_is_image its) (after a (imaged_is_cell a u its));
    up = lefts_up;
    down = lefts_down;
    bottoms = by_three (λ a. Bottom plain_kind outer_pair heights a (bottoms a)) (flat 0) (flat 1) (flat 2);
    depth_is = deep;
  }

  pub outer_pair_is_placed_lem : OuterPairIsPlaced
  outer_pair_is_placed_lem = record { lawful = pair_lawful; clean = pair_clean; sized = pair_sized; given = by_rule; placed = pair_placed }
