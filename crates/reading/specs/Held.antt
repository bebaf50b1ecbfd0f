-- What the parts of a file that were read say.
use Rattle.std.specs.Prelude.{ℕ, Bool, List, map, vec_items}
use Rattle.length.specs.Kinds.{plain_numbers, process_numbers}
use Rattle.formats.specs.Rules.{is_size_number}
use Rattle.formats.specs.Files.{JobFields, PlacementFields}
use Rattle.formats.specs.Reading as file
use Rattle.formats.specs.Held.{order_fields, job_fields, placement_fields}
use Rattle.reading.specs.declared.lengths.Allowed.{Allowed}
use Rattle.reading.specs.declared.lengths.Allowed.TheVariants.{Sizes, Any}
use Rattle.reading.specs.declared.lengths.Columns.{Columns}
use Rattle.reading.specs.declared.job.Head.{Head}
use Rattle.reading.specs.declared.job.AnyJob.{AnyJob}
use Rattle.reading.specs.declared.job.AnyJob.TheVariants as job
use Rattle.reading.specs.declared.placement.PlacementHead.{PlacementHead}
use Rattle.reading.specs.declared.placement.AnyPlacement.{AnyPlacement}
use Rattle.reading.specs.declared.placement.AnyPlacement.TheVariants as placement

abbrev pub rule_of : Allowed → ℕ → Bool
rule_of Sizes = is_size_number
rule_of Any = file.any

abbrev pub columns_of : {V : Type 0} → (V → List ℕ) → Columns V → file.Columns
columns_of numbers c = record { firsts = map numbers (vec_items c.firsts); seconds = map numbers (vec_items c.seconds) }

abbrev pub head_of : Head → file.Head
head_of h = record { count = h.count; order = order_fields h.order; turn = h.turn; processes = h.processes }

abbrev pub placement_head_of : PlacementHead → file.PlacementHead
placement_head_of h = record { count = h.count; processes = h.processes }

-- a job of either kind of length
abbrev pub any_job : AnyJob → JobFields
any_job (job.One j) = job_fields plain_numbers j
any_job (job.Three j) = job_fields process_numbers j

abbrev pub any_placement : AnyPlacement → PlacementFields
any_placement (placement.One p) = placement_fields plain_numbers p
any_placement (placement.Three p) = placement_fields process_numbers p
