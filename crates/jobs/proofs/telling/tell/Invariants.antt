-- Every step so far was an edit that was done.
use Rattle.std.proofs.Common.{◌≡◌, drop}
use Rattle.formats.specs.Held.{job_fields}
use Rattle.jobs.specs.Answers.{told}
use Rattle.jobs.proofs.telling.tell.Given as goal

abbrev pub invariant-loop-step : goal.invariant-loop-step
invariant-loop-step g l =
    told g.T.Numbered.numbers (job_fields g.T.Numbered.numbers l.lawful.job.now) 0 l.answers ≡ told g.T.Numbered.numbers (job_fields g.T.Numbered.numbers l.lawful.job.now) l.step (drop l.step l.answers)
