use Rattle.std.proofs.Common.{◌≡◌, Ok, vec_items, sym, refl, subst}
use Rattle.std.proofs.lemmas.Result.{IfOk-weaker}
use Rattle.length.specs.declared.Plain.{Plain}
use Rattle.length.specs.declared.PerProcess.{PerProcess}
use Rattle.length.specs.Kinds.{plain_numbers, process_numbers}
use Rattle.formats.specs.Writing.{job_check}
use Rattle.reading.specs.declared.job.AnyJob.{AnyJob}
use Rattle.reading.specs.Held.{any_job}
use Rattle.jobs.specs.Answers.{ComesOf}
use Rattle.jobs.proofs.Lawful.{job_processes}
use Rattle.jobs.proofs.answering.answer_any.Goals as goal

pub returns-in-One : goal.returns-in-One
returns-in-One c =
    let lawful = subst (λ (j : AnyJob). job_check (any_job j) ≡ Ok tt) c.in-One.is c.requires in
    IfOk-weaker c.answer_job.result _ _ (λ v came. subst (λ (j : AnyJob). ComesOf j (vec_items v)) (sym c.in-One.is) (job_processes plain_numbers 1 (λ (x : Plain). refl) c.in-One.job lawful, came)) c.answer_job.ensures

pub returns-in-Three : goal.returns-in-Three
returns-in-Three c =
    let lawful = subst (λ (j : AnyJob). job_check (any_job j) ≡ Ok tt) c.in-Three.is c.requires in
    IfOk-weaker c.answer_job-in-Three.result _ _ (λ v came. subst (λ (j : AnyJob). ComesOf j (vec_items v)) (sym c.in-Three.is) (job_processes process_numbers 3 (λ (x : PerProcess). refl) c.in-Three.job lawful, came)) c.answer_job-in-Three.ensures
