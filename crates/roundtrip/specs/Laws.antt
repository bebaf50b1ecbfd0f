-- The laws of the two formats, each named by what it says.
use Rattle.std.specs.Prelude.{◌≡◌, ℕ, ◌⊎◌, List, length, Ok, Err, Result, ◌≢◌}
use Rattle.refusal.specs.declared.fault.FieldFault.{FieldFault}
use Rattle.numbers.specs.Number.{EachStorable}
use Rattle.numbers.specs.Stored.{Bytes}
use Rattle.formats.specs.Files.{JobFields, PlacementFields, job_bytes, placement_bytes, placement_numbers}
use Rattle.formats.specs.Reading.{read_job_of, read_placement_of}
use Rattle.formats.specs.Writing.{job_check, placement_check}

-- a job that can be written
abbrev pub LawfulJob : JobFields → Type 0
LawfulJob j = job_check j ≡ Ok tt

-- a placement that can be written, whose two lengths have as many numbers as the others, and all are such as a file can hold
abbrev pub LawfulPlacement : PlacementFields → Type 0
LawfulPlacement p = (placement_check p ≡ Ok tt) × (length p.half_span ≡ p.processes) × (length p.depth ≡ p.processes) × EachStorable (placement_numbers p)

-- The laws of a format: `read` is what reading makes of a file, and `bytes` is the file of what is lawful.
pub record Format {A : Type 0} (read : List ℕ → Result A FieldFault) (bytes : A → List ℕ) (Lawful : A → Type 0) : Type 0 where
  -- what was written reads back to the same
  pub back : (a : A) → Lawful a → read (bytes a) ≡ Ok a
  -- what reads is lawful, and is the file of what it reads as
  pub only : (file : List ℕ) (a : A) → Bytes file → read file ≡ Ok a → Lawful a × (file ≡ bytes a)
  -- equal files are of equals
  pub apart : (a b : A) → Lawful a → Lawful b → bytes a ≡ bytes b → a ≡ b
  -- a file is of something lawful, or is refused, and never both
  pub either : (file : List ℕ) → Bytes file
      → ((a : A) × Lawful a × (file ≡ bytes a)) ⊎ ((f : FieldFault) × (read file ≡ Err f) × ((a : A) → Lawful a → file ≢ bytes a))

abbrev pub JobFormat : Type 0
JobFormat = Format read_job_of job_bytes LawfulJob

abbrev pub PlacementFormat : Type 0
PlacementFormat = Format read_placement_of placement_bytes LawfulPlacement
