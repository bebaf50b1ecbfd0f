use Rattle.std.proofs.Common.{ℕ, List, ◌++◌, sym, ap, ◌∙◌, subst, ap₂, arith}
use Rattle.formats.specs.Held.{order_fields, job_fields}
use Rattle.formats.specs.Files.{order_numbers}
use Rattle.writing.proofs.PutTogether.{puts_join, puts_place, puts_same}
use Rattle.writing.proofs.LawfulJobs.{Few, FewOrder, lawful_small}
use Rattle.writing.proofs.job.LawfulJob.put_order.Goals as goal

pub list-requires : goal.list-requires
list-requires g c =
    let small = lawful_small (job_fields g.T.Numbered.numbers c.args.self.now.job.now) c.args.self.now.lawful in
    let order = subst FewOrder (ap order_fields c.in-SequencePair.is) small.order in
    let first = subst (Few 64) (sym c.deref.ensures.value) order.0 in
    record { room = omega (arith, first.few); small = first.small }

pub list-requires-in-SequencePair : goal.list-requires-in-SequencePair
list-requires-in-SequencePair g c =
    let small = lawful_small (job_fields g.T.Numbered.numbers c.args.self.now.job.now) c.args.self.now.lawful in
    let order = subst FewOrder (ap order_fields c.in-SequencePair.is) small.order in
    let first = subst (Few 64) (sym c.deref.ensures.value) order.0 in
    let second = subst (Few 64) (sym c.deref-in-SequencePair.ensures.value) order.1 in
    record { room = omega (arith, puts_place c.list.ensures, first.few, second.few); small = second.small }

pub list-requires-in-Slicing : goal.list-requires-in-Slicing
list-requires-in-Slicing g c =
    let small = lawful_small (job_fields g.T.Numbered.numbers c.args.self.now.job.now) c.args.self.now.lawful in
    let order = subst FewOrder (ap order_fields c.in-Slicing.is) small.order in
    let list = subst (Few 127) (sym c.deref-in-Slicing.ensures.value) order in
    record { room = omega (arith, list.few); small = list.small }

pub returns-in-SequencePair : goal.returns-in-SequencePair
returns-in-SequencePair g c =
    let small = lawful_small (job_fields g.T.Numbered.numbers c.args.self.now.job.now) c.args.self.now.lawful in
    let put = puts_same
    (ap₂ (λ (xs ys : List ℕ). xs ++ ys) c.deref.ensures.value c.deref-in-SequencePair.ensures.value ∙ sym (ap (λ o. order_numbers (order_fields o)) c.in-SequencePair.is))
    (puts_join c.list.ensures c.list-in-SequencePair.ensures) in
    record { put = put; few = omega (arith, puts_place put, small.order_few) }

pub returns-in-Slicing : goal.returns-in-Slicing
returns-in-Slicing g c =
    let small = lawful_small (job_fields g.T.Numbered.numbers c.args.self.now.job.now) c.args.self.now.lawful in
    let put = puts_same (c.deref-in-Slicing.ensures.value ∙ sym (ap (λ o. order_numbers (order_fields o)) c.in-Slicing.is)) c.list-in-Slicing.ensures in
    record { put = put; few = omega (arith, puts_place put, small.order_few) }
