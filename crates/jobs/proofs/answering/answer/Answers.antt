use Rattle.std.proofs.Common.{vec_items, arith}
use Rattle.std.proofs.lemmas.Result.{IfOk-weaker}
use Rattle.reading.specs.Held.{any_job}
use Rattle.jobs.proofs.Lawful.{each_byte}
use Rattle.jobs.proofs.Files.{came_to, refused_so}
use Rattle.jobs.proofs.answering.answer.Goals as goal

pub answer_any-requires : goal.answer_any-requires
answer_any-requires c =
    (c.job_laws.ensures.only c.args.job.now (any_job c.in-Ok.read) (each_byte c.args.job.now (λ i. omega (arith, c.type_inv.job i))) c.in-Ok.ensures).0

pub returns-in-Ok : goal.returns-in-Ok
returns-in-Ok c = IfOk-weaker c.answer_any.result _ _ (λ v came. came_to c.in-Ok.read c.args.job.now (vec_items v) c.in-Ok.ensures came) c.answer_any.ensures

pub returns-in-Err : goal.returns-in-Err
returns-in-Err c = IfOk-weaker c.answer_refused.result _ _ (λ v so. refused_so c.in-Err.error c.args.job.now (vec_items v) c.in-Err.ensures so) c.answer_refused.ensures
