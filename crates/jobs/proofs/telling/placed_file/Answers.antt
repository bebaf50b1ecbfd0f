use Rattle.std.proofs.Common.{ℕ, List, map, length, vec_items, ap, ◌∙◌, ap₂}
use Rattle.std.proofs.lemmas.Result.{IfOk-weaker}
use Rattle.formats.specs.Files.{placement_bytes}
use Rattle.formats.specs.Held.{job_fields}
use Rattle.formats.specs.Choices.{exchanges}
use Rattle.jobs.proofs.Lawful.{job_checked, job_processes, long_list, placement_lawful, either_long, map_either}
use Rattle.jobs.proofs.telling.placed_file.Goals as goal

pub invariant_of-placement_file : goal.invariant_of-placement_file
invariant_of-placement_file g c =
    let numbers = g.T.Numbered.numbers in
    let listed = g.met.T.Numbered.listed in
    let job = c.args.lawful.now.job.now in
    let n = job.count in
    let t = exchanges job.turn in
    let placed = c.args.placed.now in
    let checked = job_checked (job_fields numbers job) c.args.lawful.now.lawful in
    let k = job_processes numbers g.T.Length.NUMBERS listed job c.args.lawful.now.lawful in
    let x-long = ap length (c.in_ok-copy_of.ensures ∙ c.edges.ensures.x) ∙ either_long t (vec_items placed.y) (vec_items placed.x) n c.requires.y_length c.requires.x_length in
    let y-long = ap length (c.in_ok-copy_of-2.ensures ∙ c.edges.ensures.y) ∙ either_long t (vec_items placed.x) (vec_items placed.y) n c.requires.x_length c.requires.y_length in
    record {
      lawful = placement_lawful (record {
        count = n;
        processes = job.processes;
        half_span = numbers placed.extent.half_span;
        depth = numbers placed.extent.depth;
        x = map numbers (vec_items c.in_ok-copy_of.field-0);
        y = map numbers (vec_items c.in_ok-copy_of-2.field-0);
      }) checked.is_counted checked.is_processed
          (long_list numbers g.T.Length.NUMBERS listed n job.processes k (vec_items c.in_ok-copy_of.field-0) x-long)
          (long_list numbers g.T.Length.NUMBERS listed n job.processes k (vec_items c.in_ok-copy_of-2.field-0) y-long);
    }

pub returns : goal.returns
returns g c =
    let V = g.row.T.Denot in
    let numbers = g.T.Numbered.numbers in
    let job = c.args.lawful.now.job.now in
    let t = exchanges job.turn in
    let placed = c.args.placed.now in
    let x = ap (map numbers) (c.in_ok-copy_of.ensures ∙ c.edges.ensures.x) ∙ map_either numbers t (vec_items placed.y) (vec_items placed.x) in
    let y = ap (map numbers) (c.in_ok-copy_of-2.ensures ∙ c.edges.ensures.y) ∙ map_either numbers t (vec_items placed.x) (vec_items placed.y) in
    let file : List (List ℕ) → List (List ℕ) → List ℕ = λ xs ys. placement_bytes (record {
      count = job.count;
      processes = job.processes;
      half_span = numbers placed.extent.half_span;
      depth = numbers placed.extent.depth;
      x = xs;
      y = ys;
    }) in
    IfOk-weaker c.placement_file.result _ _ (λ v e. e ∙ ap₂ file x y) c.placement_file.ensures
