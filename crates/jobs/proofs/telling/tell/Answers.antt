use Rattle.std.proofs.Common.{ℕ, sym, ap, ◌∙◌}
use Rattle.std.proofs.lemmas.Result.{IfOk-weaker}
use Rattle.refusal.specs.Register.{sheet_told}
use Rattle.formats.specs.Held.{job_fields}
use Rattle.jobs.specs.Refusals.{refusal_bytes}
use Rattle.jobs.proofs.Answered.{told_refused, told_placed, filled_placed, told_edited, told_all}
use Rattle.jobs.proofs.telling.tell.Goals as goal

pub returns-in-Refused : goal.returns-in-Refused
returns-in-Refused g c =
    let numbers = g.T.Numbered.numbers in
    let j = job_fields numbers c.args.lawful.now.job.now in
    let f = c.in-Refused.fault in
    let is =
    ap refusal_bytes (c.refusal_at.ensures.told ∙ ap (λ (at : ℕ). sheet_told at f) c.fault_place-offset.ensures)
    ∙ sym (told_refused numbers j c.args.lawful.now.job.now.count c.loop-step.step c.args.answers.now c.index-answers-step.result c.loop-step-test.true c.index-answers-step.is f c.in-Refused.is)
    ∙ sym c.loop-step.invariant in
    IfOk-weaker c.refusal_file.result _ _ (λ v e. e ∙ is) c.refusal_file.ensures

pub placed_file-requires : goal.placed_file-requires
placed_file-requires g c =
    filled_placed g.T.Numbered.numbers (job_fields g.T.Numbered.numbers c.args.lawful.now.job.now) c.args.lawful.now.job.now.count c.loop-step.step c.args.answers.now c.index-answers-step.result c.loop-step-test.true c.index-answers-step.is c.in-Placed.placed c.in-Placed.is c.requires

pub returns-in-Placed : goal.returns-in-Placed
returns-in-Placed g c =
    let numbers = g.T.Numbered.numbers in
    let j = job_fields numbers c.args.lawful.now.job.now in
    let is = sym (told_placed numbers j c.args.lawful.now.job.now.count c.loop-step.step c.args.answers.now c.index-answers-step.result c.loop-step-test.true c.index-answers-step.is c.in-Placed.placed c.in-Placed.is) ∙ sym c.loop-step.invariant in
    IfOk-weaker c.placed_file.result _ _ (λ v e. e ∙ is) c.placed_file.ensures

pub loop-step-preserved : goal.loop-step-preserved
loop-step-preserved g c =
    let numbers = g.T.Numbered.numbers in
    let j = job_fields numbers c.args.lawful.now.job.now in
    c.loop-step.invariant ∙ told_edited numbers j c.args.lawful.now.job.now.count c.loop-step.step c.args.answers.now c.index-answers-step.result c.loop-step-test.true c.index-answers-step.is c.in-Edited.is

pub returns : goal.returns
returns g c =
    c.new.ensures.items ∙ sym (c.loop-step.invariant ∙ told_all g.T.Numbered.numbers (job_fields g.T.Numbered.numbers c.args.lawful.now.job.now) c.loop-step.step c.args.answers.now c.loop-step-test.false)
