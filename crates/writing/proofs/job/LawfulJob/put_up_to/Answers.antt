use Rattle.std.proofs.Common.{◌≡◌, List, length, take, vec_items, sym, ap, ◌∙◌, subst, ap₂, arith}
use Rattle.std.proofs.lemmas.List.{length-take}
use Rattle.numbers.specs.Number.{EachStorable}
use Rattle.formats.specs.declared.fields.Entry.{Entry}
use Rattle.formats.specs.Files.{entry_numbers}
use Rattle.formats.specs.Held.{job_fields}
use Rattle.writing.proofs.PutTogether.{puts_join, puts_same, storable_take, take_min}
use Rattle.writing.proofs.LawfulJobs.{lawful_small}
use Rattle.writing.proofs.job.LawfulJob.put_up_to.Goals as goal

pub entries-requires : goal.entries-requires
entries-requires g c =
    let es = c.deref.result.now in
    let job = c.args.self.now.job.now in
    let small = lawful_small (job_fields g.T.Numbered.numbers job) c.args.self.now.lawful in
    let same : vec_items job.entries ≡ es = sym c.deref.ensures.value in
    record {
      room = omega (arith, c.put_before_entries.ensures.few, length-take c.min-entries.result es, small.entries_few, ap length same);
      small = storable_take es c.min-entries.result (subst (λ (xs : List Entry). EachStorable (entry_numbers xs)) same small.entries_small);
    }

pub returns : goal.returns
returns g c =
    let items = vec_items c.args.self.now.job.now.entries in
    let cut : take c.min-entries.result c.deref.result.now ≡ take c.args.entry items =
    ap₂ take c.min-entries.ensures c.deref.ensures.value ∙ take_min c.args.entry c.len.result items (c.len.ensures ∙ c.args.self.now.job.now.entries.ok.0) in
    puts_join c.put_before_entries.ensures.put (puts_same (ap entry_numbers cut) c.entries.ensures)
