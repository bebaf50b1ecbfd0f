use Rattle.placement.proofs.LoopWitnesses.{row_of_five_loops_lem}
use Rattle.placement.proofs.row_of_five_loops.Goals as goal

pub returns : goal.returns
returns c = row_of_five_loops_lem
