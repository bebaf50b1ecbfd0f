use Rattle.std.proofs.Common.{ℕ, List, vec_items, All, sym, ap, ◌∙◌, subst}
use Rattle.std.proofs.lemmas.Result.{IfOk-weaker}
use Rattle.sheet.specs.declared.steps.Step.{Step}
use Rattle.sheet.specs.Runs.{WholeRun, IsFilled}
use Rattle.formats.specs.Held.{job_fields}
use Rattle.jobs.specs.Answers.{told}
use Rattle.jobs.proofs.InOrder.{run_in_order}
use Rattle.jobs.proofs.answering.answer_on.Goals as goal

pub tell-requires : goal.tell-requires
tell-requires g c =
    subst (All (IsFilled c.args.lawful.now.job.now.count)) (sym c.deref-2.ensures.value) (subst (λ (n : ℕ). All (IsFilled n) (vec_items c.in_ok-answers.answers)) c.requires c.in_ok-answers.ensures.filled)

pub returns : goal.returns
returns g c =
    let numbers = g.T.Numbered.numbers in
    let j = job_fields numbers c.args.lawful.now.job.now in
    let o = g.B.Book.order c.args.book in
    let steps = vec_items c.in_ok-steps.steps in
    let answers = vec_items c.in_ok-answers.answers in
    let asks = c.in_ok-steps.ensures in
    let ran = subst (λ (ss : List (Step g.row.T.Denot)). WholeRun g.T.Length.kind o ss answers) c.deref.ensures.value c.in_ok-answers.ensures.whole in
    IfOk-weaker c.tell.result _ _
    (λ v e. record {
      steps = steps;
      asks = asks;
      answers = answers;
      ran = ran;
      filled = c.in_ok-answers.ensures.filled;
      in_order = run_in_order g.T.Length.kind numbers (λ v. (g.met.T.Numbered.sized v).1) c.args.lawful.now.job.now c.args.lawful.now.lawful o c.requires steps answers asks ran;
      tells = e ∙ ap (told numbers j 0) c.deref-2.ensures.value;
    })
    c.tell.ensures
