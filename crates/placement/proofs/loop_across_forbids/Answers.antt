use Rattle.placement.proofs.AcrossLoops.{loop_across_forbids_lem}
use Rattle.placement.proofs.loop_across_forbids.Goals as goal

pub returns : goal.returns
returns c = loop_across_forbids_lem
