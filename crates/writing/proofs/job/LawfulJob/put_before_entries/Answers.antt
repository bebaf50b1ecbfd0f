use Rattle.std.proofs.Common.{ℕ, List, [], ◌∷◌, map, length, vec_items, ap, ◌∙◌, ap₂, arith}
use Rattle.std.proofs.lemmas.List.{length-map}
use Rattle.formats.specs.Choices.{book_number}
use Rattle.formats.specs.Files.{by_cell}
use Rattle.formats.specs.Held.{job_fields}
use Rattle.writing.proofs.PutTogether.{puts_join, puts_place, puts_same, columns_place, few_listed}
use Rattle.writing.proofs.LawfulJobs.{lawful_small}
use Rattle.writing.proofs.job.LawfulJob.put_before_entries.Goals as goal

pub overflow_cast-len : goal.overflow_cast-len
overflow_cast-len g c =
    let small = lawful_small (job_fields g.T.Numbered.numbers c.args.self.now.job.now) c.args.self.now.lawful in
    omega (arith, small.entries_few, c.len.ensures, c.args.self.now.job.now.entries.ok.0)

pub number-requires-5 : goal.number-requires-5
number-requires-5 g c =
    let numbers = g.T.Numbered.numbers in
    let few = few_listed numbers g.met.T.Length.counted g.met.T.Numbered.listed in
    let small = lawful_small (job_fields numbers c.args.self.now.job.now) c.args.self.now.lawful in
    omega (arith, puts_place c.number-3.ensures, puts_place c.number-4.ensures, columns_place numbers few c.deref.result.now c.deref-2.result.now c.columns.ensures, small.widths, length-map (vec_items c.args.self.now.job.now.widths) numbers, ap length c.deref.ensures.value)

pub returns : goal.returns
returns g c =
    let V = g.row.T.Denot in
    let numbers = g.T.Numbered.numbers in
    let few = few_listed numbers g.met.T.Length.counted g.met.T.Numbered.listed in
    let small = lawful_small (job_fields numbers c.args.self.now.job.now) c.args.self.now.lawful in
    let kind = puts_same (ap (λ (v : ℕ). v ∷ []) (c.from.ensures ∙ ap book_number c.kind.ensures)) c.number.ensures in
    let turn = puts_same (ap (λ (v : ℕ). v ∷ []) c.from-2.ensures) c.number-3.ensures in
    let cells = puts_same (ap₂ (λ (xs ys : List V). by_cell (map numbers xs) (map numbers ys)) c.deref.ensures.value c.deref-2.ensures.value) c.columns.ensures in
    let entries = puts_same (ap (λ (v : ℕ). v ∷ []) (c.len.ensures ∙ c.args.self.now.job.now.entries.ok.0)) c.number-5.ensures in
    record {
      put = puts_join kind (puts_join c.number-2.ensures (puts_join c.put_order.ensures.put (puts_join turn (puts_join c.number-4.ensures (puts_join cells entries)))));
      few = omega (arith, puts_place turn, puts_place c.number-4.ensures, columns_place numbers few c.deref.result.now c.deref-2.result.now c.columns.ensures, small.widths, length-map (vec_items c.args.self.now.job.now.widths) numbers, ap length c.deref.ensures.value, puts_place entries, c.put_order.ensures.few);
    }
