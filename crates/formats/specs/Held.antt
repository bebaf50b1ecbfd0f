-- What a job and a placement in memory say, where `numbers` gives the numbers of a length.
use Rattle.std.specs.Prelude.{ℕ, List, map, vec_items}
use Rattle.formats.specs.declared.job.OrderLists.{OrderLists}
use Rattle.formats.specs.declared.job.OrderLists.TheVariants as lists
use Rattle.formats.specs.declared.job.Job.{Job}
use Rattle.formats.specs.declared.placement.Placement.{Placement}
use Rattle.formats.specs.Files.{OrderFields, rows, expression, JobFields, PlacementFields}

abbrev pub order_fields : OrderLists → OrderFields
order_fields (lists.SequencePair first second) = rows (vec_items first) (vec_items second)
order_fields (lists.Slicing list) = expression (vec_items list)

abbrev pub job_fields : {V : Type 0} → (V → List ℕ) → Job V → JobFields
job_fields numbers j = record {
  count = j.count;
  order = order_fields j.order;
  turn = j.turn;
  processes = j.processes;
  widths = map numbers (vec_items j.widths);
  heights = map numbers (vec_items j.heights);
  entries = vec_items j.entries;
}

abbrev pub placement_fields : {V : Type 0} → (V → List ℕ) → Placement V → PlacementFields
placement_fields numbers p = record {
  count = p.count;
  processes = p.processes;
  half_span = numbers p.half_span;
  depth = numbers p.depth;
  x = map numbers (vec_items p.x);
  y = map numbers (vec_items p.y);
}
