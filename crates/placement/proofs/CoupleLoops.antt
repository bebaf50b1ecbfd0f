-- A forbidden couple is a loop of two: across where it is of the side sort, downward where it is of the stack sort.
use Rattle.std.proofs.Common.{[], ◌∷◌, inl, inr}
use Rattle.placement.specs.Meaning.{Mate}
use Rattle.placement.specs.Across.{cell, of_mate, straight, mirrored}
use Rattle.placement.specs.Theorems.{ForbiddenCoupleLoops}

pub forbidden_couple_loops_lem : ForbiddenCoupleLoops
forbidden_couple_loops_lem m lawful (x, y, couple) =
    let x_back : Mate m couple.mx x = lawful.both_ways x couple.mx couple.x_mate in
    let y_back : Mate m couple.my y = lawful.both_ways y couple.my couple.y_mate in
    elim couple.clash [
      | inl (side, mates) ↦ inr (cell x ∷ cell y ∷ [], (straight side, mirrored mates (of_mate y_back) (of_mate x_back)))
      | inr (stack, mates) ↦ inl (y ∷ couple.mx ∷ [], (inr (couple.my, couple.y_mate, mates), inr (x, x_back, stack)))
    ]
