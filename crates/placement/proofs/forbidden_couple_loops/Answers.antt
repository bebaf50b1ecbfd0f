use Rattle.placement.proofs.CoupleLoops.{forbidden_couple_loops_lem}
use Rattle.placement.proofs.forbidden_couple_loops.Goals as goal

pub returns : goal.returns
returns c = forbidden_couple_loops_lem
