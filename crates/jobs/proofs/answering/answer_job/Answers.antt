use Rattle.std.proofs.Common.{◌≡◌, ℕ, List, Ok, vec_items, ap, subst}
use Rattle.book.specs.Rows.{NoRows}
use Rattle.book.specs.Slicing.{NoExpression}
use Rattle.formats.specs.Files.{OrderFields}
use Rattle.formats.specs.Writing.{lists_check, order_check}
use Rattle.formats.specs.Held.{order_fields, job_fields}
use Rattle.formats.proofs.LawfulOrders.{rows_never_refused, expression_never_refused_lem}
use Rattle.jobs.proofs.Lawful.{job_checked, rows_long, expression_long}
use Rattle.jobs.proofs.answering.answer_job.Goals as goal

pub returns-in-Err : goal.returns-in-Err
returns-in-Err g c =
    let job = c.args.lawful.now.job.now in
    let j = job_fields g.T.Numbered.numbers job in
    let first = vec_items c.in-SequencePair.first in
    let second = vec_items c.in-SequencePair.second in
    let checked = job_checked j c.args.lawful.now.lawful in
    let is = ap order_fields c.in-SequencePair.is in
    let lists = subst (λ (o : OrderFields). lists_check j o ≡ Ok tt) is checked.lists in
    let order = subst (λ (o : OrderFields). order_check job.count o ≡ Ok tt) is checked.order in
    let long = rows_long j first second lists in
    let refused = subst (λ (a : List ℕ). NoRows job.count a second c.in-Err.fault) c.deref.ensures.value (subst (λ (b : List ℕ). NoRows job.count c.deref.result.now b c.in-Err.fault) c.deref-in-SequencePair.ensures.value c.in-Err.ensures) in
    absurd (rows_never_refused job.count first second c.in-Err.fault checked.is_counted long.0 long.1 order refused)

pub returns-in-Err-new : goal.returns-in-Err-new
returns-in-Err-new g c =
    let job = c.args.lawful.now.job.now in
    let j = job_fields g.T.Numbered.numbers job in
    let list = vec_items c.in-Slicing.expression in
    let checked = job_checked j c.args.lawful.now.lawful in
    let is = ap order_fields c.in-Slicing.is in
    let lists = subst (λ (o : OrderFields). lists_check j o ≡ Ok tt) is checked.lists in
    let order = subst (λ (o : OrderFields). order_check job.count o ≡ Ok tt) is checked.order in
    let refused = subst (λ (a : List ℕ). NoExpression job.count a c.in-Err-new.fault) c.deref-in-Slicing.ensures.value c.in-Err-new.ensures in
    absurd (expression_never_refused_lem job.count list c.in-Err-new.fault checked.is_counted (expression_long j list lists) order refused)
