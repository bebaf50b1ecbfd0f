use Rattle.placement.proofs.LoopWitnesses.{stack_of_three_loops_lem}
use Rattle.placement.proofs.stack_of_three_loops.Goals as goal

pub returns : goal.returns
returns c = stack_of_three_loops_lem
