-- A clean sheet with what the rule gives for it: three cells in a row, of which the outer two are a pair.
use Rattle.std.specs.Prelude.{ℕ, List, [], ◌∷◌, Some, None, slice_index, slice_index_or}
use Rattle.book.specs.declared.relation.Relation.TheVariants.{Left}
use Rattle.book.specs.Order.{Order}
use Rattle.length.specs.Kinds.{plain_kind, plain}
use Rattle.length.specs.declared.Plain.{Plain}
use Rattle.placement.specs.Meaning.{Meaning, Lawful}
use Rattle.placement.specs.Couples.{Clean}
use Rattle.placement.specs.Placements.{Sizes, Placement}
use Rattle.placement.specs.Rule.{Given}
use Rattle.placement.specs.Witnesses.{line}

-- how many cells stand left of the cell, in the row 0 2 1
abbrev pub rank : ℕ → ℕ
rank a = slice_index (0 ∷ 2 ∷ 1 ∷ []) a

abbrev pub row : Order
row = line Left rank 3

-- the outer two are a pair, and the cell between them is free
abbrev pub outer_pair : Meaning
outer_pair = record { order = row; mate = λ a. slice_index_or (Some 1 ∷ Some 0 ∷ None ∷ []) a None }

-- one plain length for each cell
abbrev pub lengths : List ℕ → ℕ → Plain
lengths ns a = plain (slice_index ns a)

abbrev pub widths : ℕ → Plain
widths = lengths (4 ∷ 4 ∷ 3 ∷ [])

abbrev pub heights : ℕ → Plain
heights = lengths (5 ∷ 5 ∷ 2 ∷ [])

abbrev pub befores : ℕ → Plain
befores = lengths (0 ∷ 7 ∷ 4 ∷ [])

abbrev pub afters : ℕ → Plain
afters = lengths (7 ∷ 0 ∷ 4 ∷ [])

abbrev pub lefts : ℕ → Plain
lefts = lengths (0 ∷ 8 ∷ 4 ∷ [])

abbrev pub bottoms : ℕ → Plain
bottoms = lengths (0 ∷ 0 ∷ 0 ∷ [])

-- The longest chain is 11, so the half-span is 6; the pair stands at both ends of the span, at 0 and at 8.
pub record OuterPairIsPlaced : Type 0 where
  pub lawful : Lawful outer_pair
  pub clean : Clean outer_pair
  pub sized : Sizes plain_kind outer_pair widths heights
  pub given : Given plain_kind outer_pair widths heights befores afters lefts bottoms (plain 6) (plain 5)
  pub placed : Placement plain_kind outer_pair widths heights lefts bottoms (plain 6)
