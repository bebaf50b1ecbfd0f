use Rattle.placement.proofs.DownwardLoops.{downward_loop_forbids_lem}
use Rattle.placement.proofs.downward_loop_forbids.Goals as goal

pub returns : goal.returns
returns c = downward_loop_forbids_lem
