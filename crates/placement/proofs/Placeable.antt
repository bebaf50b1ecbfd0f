-- A sheet is clean exactly when it can be placed: on a clean one every cell may be two wide and one high.
use Rattle.std.proofs.Common.{ℕ, refl, arith}
use Rattle.length.specs.Kinds.{plain_kind, plain}
use Rattle.length.specs.declared.Plain.{Plain}
use Rattle.placement.specs.Meaning.{Meaning}
use Rattle.placement.specs.Couples.{Clean}
use Rattle.placement.specs.Placements.{Sizes, Placeable}
use Rattle.placement.specs.Theorems.{ValuesExist, RulePlaces, ForbiddenUnplaceable, CleanExactlyPlaceable}

-- an even width, so that a centred cell may have it too
abbrev widths : ℕ → Plain
widths a = plain 2

abbrev heights : ℕ → Plain
heights a = plain 1

even_widths_lawful : (m : Meaning) → Sizes plain_kind m widths heights
even_widths_lawful m = record {
  wide = λ a here. (omega arith, omega arith);
  high = λ a here. (omega arith, omega arith);
  same_width = λ a b mate. refl;
  same_height = λ a b mate. refl;
  even = λ a mate. refl;
}

pub clean_exactly_placeable_lem : ValuesExist plain_kind → RulePlaces plain_kind → ForbiddenUnplaceable plain_kind → CleanExactlyPlaceable
clean_exactly_placeable_lem exist places unplaceable m lawful = (clean_placed, placed_clean)
  where
    clean_placed : Clean m → Placeable m
    clean_placed clean =
        let (before, after, x, y, half, depth, given) = exist m lawful clean widths heights in
        record {
          w = widths;
          h = heights;
          x = x;
          y = y;
          half = half;
          lawful = even_widths_lawful m;
          placed = places m lawful clean widths heights before after x y half depth (even_widths_lawful m) given;
        }

    placed_clean : Placeable m → Clean m
    placed_clean p a b couple = unplaceable m lawful (a, b, couple) p.w p.h p.x p.y p.half p.lawful p.placed
