-- The row whose outer two are a pair is a lawful and clean sheet, its sizes are lawful, and its placement is one.
use Rattle.std.proofs.Common.{◌≡◌, ℕ, ◌+◌, ◌<◌, ◌≤◌, Some, refl, subst, inl, inr, arith}
use Rattle.length.specs.Kind.{Even}
use Rattle.length.specs.Kinds.{plain_kind, plain}
use Rattle.placement.specs.Meaning.{Mate, Lawful}
use Rattle.placement.specs.Couples.{Clean}
use Rattle.placement.specs.Placements.{Sizes, Placement}
use Rattle.placement.specs.PlacedRow.{rank, outer_pair, widths, heights, lefts, bottoms}
use Rattle.placement.proofs.Lines.{left_ranks, row_none_above}
use Rattle.placement.proofs.Row.{by_three, by_left, row_is_lawful}

-- what holds of cells 0 and 1, either way round, holds of mates
pub by_pair : (P : ℕ → ℕ → Type 0) → P 0 1 → P 1 0 → (a b : ℕ) → Mate outer_pair a b → P a b
by_pair P p q a b mate =
    by_three (λ (c : ℕ). outer_pair.mate c ≡ Some b → P c b)
    (λ e. subst (P 0) (cc) p)
    (λ e. subst (P 1) (cc) q)
    (λ e. let z : ◌≡◌ {A = ℕ} 0 1 = cc in absurd (omega arith))
    a mate.cell mate.told

pub pair_lawful : Lawful outer_pair
pair_lawful = record {
  laws = row_is_lawful;
  both_ways = by_pair (λ a b. Mate outer_pair b a) (record { cell = omega arith; told = refl }) (record { cell = omega arith; told = refl });
}

-- mates have the ranks 0 and 2, so that two couples of mates cannot stand the same way round
pub pair_clean : Clean outer_pair
pair_clean a b couple =
    elim couple.clash [
      | inl (ab, mates) ↦
          let low : rank a < rank b = left_ranks rank 3 a b ab in
          let mates_low : rank couple.mx < rank couple.my = left_ranks rank 3 couple.mx couple.my mates in
          let one : rank a + rank couple.mx ≡ 2 = by_pair (λ c d. rank c + rank d ≡ 2) refl refl a couple.mx couple.x_mate in
          let other : rank b + rank couple.my ≡ 2 = by_pair (λ c d. rank c + rank d ≡ 2) refl refl b couple.my couple.y_mate in
          omega arith
      | inr (ab, mates) ↦ row_none_above rank 3 a b ab
    ]

pub pair_sized : Sizes plain_kind outer_pair widths heights
pair_sized = record {
  wide = by_three (λ a. plain_kind.size (widths a)) (omega arith, omega arith) (omega arith, omega arith) (omega arith, omega arith);
  high = by_three (λ a. plain_kind.size (heights a)) (omega arith, omega arith) (omega arith, omega arith) (omega arith, omega arith);
  same_width = by_pair (λ a b. widths a ≡ widths b) refl refl;
  same_height = by_pair (λ a b. heights a ≡ heights b) refl refl;
  even = λ a mate. by_pair (λ c d. Even plain_kind (widths c)) refl refl a a mate;
}

pub pair_placed : Placement plain_kind outer_pair widths heights lefts bottoms (plain 6)
pair_placed = record {
  inside = by_three (λ a. (lefts a).0 + (widths a).0 ≤ 12) (omega arith) (omega arith) (omega arith);
  beside = by_left (λ a b. (lefts a).0 + (widths a).0 ≤ (lefts b).0) (omega arith) (omega arith) (omega arith);
  stacked = λ a b ab. absurd (row_none_above rank 3 a b ab);
  level = by_pair (λ a b. bottoms a ≡ bottoms b) refl refl;
  mirrored = by_pair (λ a b. plain ((lefts a).0 + (lefts b).0 + (widths a).0) ≡ plain 12) refl refl;
}
