use Rattle.placement.proofs.OuterPairByRule.{outer_pair_is_placed_lem}
use Rattle.placement.proofs.outer_pair_is_placed.Goals as goal

pub returns : goal.returns
returns c = outer_pair_is_placed_lem c.laws_hold.ensures
