-- The jobs that pass their check are read exactly.
use Rattle.std.proofs.Common.{◌≡◌, ℕ, List, [], ◌++◌, sym, refl, ◌∙◌, arith}
use Rattle.std.proofs.lemmas.List.{append_assoc, append-nil}
use Rattle.formats.specs.Rules.{is_size_number}
use Rattle.formats.specs.Files.{JobFields, job_numbers}
use Rattle.formats.specs.Reading.{and_then, head, body}
use Rattle.formats.specs.Writing.{lists_check, order_check, counts_check, sizes_check, entries_check}
use Rattle.roundtrip.specs.Laws.{LawfulJob}
use Rattle.formats.proofs.Checks.{both_parts, both_from, counted, count_passes}
use Rattle.roundtrip.proofs.Exact.{Exact, Of, exact_like, exact_part}
use Rattle.formats.proofs.Small.{count_few}
use Rattle.formats.proofs.FewEntries.{entries_few, entries_small}
use Rattle.roundtrip.proofs.Level.{rows_level}
use Rattle.roundtrip.proofs.Sizes.{sized_rows, rows_sized}
use Rattle.roundtrip.proofs.Heads.{GoodHead, head_numbers, exact_head}
use Rattle.roundtrip.proofs.Bodies.{GoodBody, head_of, body_numbers, exact_body}
use Rattle.roundtrip.proofs.JobLists.{ordered, listed, order_passes}

module _ (j : JobFields) where
  abbrev n : ℕ
  n = j.count

  good : LawfulJob j → GoodHead (head_of j) × GoodBody (head_of j) j
  good law =
      let a = both_parts (counts_check n j.processes) _ law in
      let b = counted n j.processes a.0 in
      let c = both_parts (lists_check j j.order) _ a.1 in
      let d = both_parts (order_check n j.order) _ c.1 in
      let e = both_parts (sizes_check 0 j.widths j.heights) (entries_check n [] j.entries) d.1 in
      let few = count_few n b.0 in
      let o = ordered j j.order few c.0 d.0 in (
        record { count = b.0; order = o.0; processes = b.1 },
        record {
          is = refl;
          long = o.1.0;
          sizes = sized_rows j.processes 0 j.widths j.heights o.1.1 e.0;
          few = omega (arith, entries_few n j.entries e.1);
          entries = e.1;
          small = entries_small n [] j.entries few e.1;
        },
      )

  lawful : GoodHead (head_of j) → GoodBody (head_of j) j → LawfulJob j
  lawful h b =
      both_from (count_passes n j.processes h.count h.processes)
      (both_from (listed j j.order h.order (b.long, rows_level j.processes is_size_number j.widths j.heights b.sizes))
      (both_from (order_passes j j.order h.order)
      (both_from (rows_sized j.processes 0 j.widths j.heights b.sizes) b.entries)))

  numbers : head_numbers (head_of j) ++ body_numbers j ≡ job_numbers j
  numbers = simp (append_assoc, append-nil)

pub exact_job : (file : List ℕ) → Exact file (λ p. and_then (head file p) (λ h q. body h file q)) (Of LawfulJob job_numbers)
exact_job file =
    exact_like
    (λ j ns w. (lawful j w.0.0 w.0.1, w.1 ∙ numbers j))
    (λ j ns w. (good j w.0, w.1 ∙ sym (numbers j)))
    (exact_part head_of (exact_head file) (λ _ h. exact_body file h) (λ h j _ g. sym g.is))
