use Rattle.std.proofs.Common.{◌≤◌}
use Rattle.place.proofs.read_job.Given as goal

abbrev pub invariant-loop : goal.invariant-loop
invariant-loop g l = l.held ≤ 4096
