-- The steps so far are those of the entries so far.
use Rattle.std.proofs.Common.{◌≡◌, map, take, vec_items}
use Rattle.jobs.specs.Steps.{step_of_entry}
use Rattle.jobs.proofs.steps.edits.Given as goal

abbrev pub invariant-loop-asked : goal.invariant-loop-asked
invariant-loop-asked g l = vec_items l.steps ≡ map step_of_entry (take l.asked-index l.entries)
