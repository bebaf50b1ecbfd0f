-- What a job file comes to: a placement file, or the file of the first refusal.
use Rattle.std.specs.Prelude.{◌≡◌, ℕ, ◌+◌, cond, List, [], ◌∷◌, map, Ok, Err, vec_items, All}
use Rattle.refusal.specs.declared.fault.FieldFault.{FieldFault}
use Rattle.refusal.specs.declared.fault.SheetFault.TheVariants as sheet
use Rattle.refusal.specs.Register.{field_told, sheet_told}
use Rattle.book.specs.Order.{Order}
use Rattle.length.specs.Kind.{Kind}
use Rattle.length.specs.Kinds.{plain_kind, process_kind, plain_numbers, process_numbers}
use Rattle.sheet.specs.declared.steps.Step.{Step}
use Rattle.sheet.specs.declared.steps.Answer.{Answer}
use Rattle.sheet.specs.declared.steps.Answer.TheVariants as answer
use Rattle.sheet.specs.declared.steps.Coordinates.{Coordinates}
use Rattle.sheet.specs.Runs.{WholeRun, IsFilled}
use Rattle.formats.specs.declared.fields.Entry.{Entry}
use Rattle.formats.specs.declared.job.Job.{Job}
use Rattle.formats.specs.Choices.{exchanges}
use Rattle.formats.specs.Files.{JobFields, PlacementFields, placement_bytes}
use Rattle.formats.specs.Held.{job_fields}
use Rattle.formats.specs.Reading.{read_job_of}
use Rattle.reading.specs.declared.job.AnyJob.{AnyJob}
use Rattle.reading.specs.declared.job.AnyJob.TheVariants as job
use Rattle.reading.specs.declared.error.ReadError.{ReadError}
use Rattle.reading.specs.declared.error.ReadError.TheVariants as error
use Rattle.jobs.specs.Refusals.{refusal_bytes, place_of_fault}
use Rattle.jobs.specs.Steps.{Means, turned_by, Asks}

-- the placement of a job, by what its placing gave; where the turn exchanges them, x and y change places
abbrev pub placement_said : {V : Type 0} → (V → List ℕ) → JobFields → Coordinates V → PlacementFields
placement_said numbers j c = record {
  count = j.count;
  processes = j.processes;
  half_span = numbers c.extent.half_span;
  depth = numbers c.extent.depth;
  x = cond (exchanges j.turn) (map numbers (vec_items c.y)) (map numbers (vec_items c.x));
  y = cond (exchanges j.turn) (map numbers (vec_items c.x)) (map numbers (vec_items c.y));
}

-- the file that tells what the steps of a job came to, from step i on: the first refusal, or the placement
abbrev pub told : {V : Type 0} → (V → List ℕ) → JobFields → ℕ → List (Answer V) → List ℕ
told numbers j i [] = []
told numbers j i (answer.Edited ∷ rest) = told numbers j (i + 1) rest
told numbers j i (answer.Refused f ∷ rest) = refusal_bytes (sheet_told (place_of_fault j i f) f)
told numbers j i (answer.Placed c ∷ rest) = placement_bytes (placement_said numbers j c)

-- an entry is done, or is unplaceable
pub data EntryCame {V : Type 0} : Answer V → Type 0 where
  edited : EntryCame answer.Edited
  unplaceable : {x y : ℕ} → EntryCame (answer.Refused (sheet.Unplaceable x y))

-- a placing gives a placement, or finds the sizes of a pair to differ or a centred width to be odd
pub data PlacingCame {V : Type 0} : Answer V → Type 0 where
  placed : {c : Coordinates V} → PlacingCame (answer.Placed c)
  pair_differs : {c d : ℕ} → PlacingCame (answer.Refused (sheet.PairSizesDiffer c d))
  odd_centre : {c : ℕ} → PlacingCame (answer.Refused (sheet.OddCentre c))

-- one answer for each entry, in their order, and then one for the placing
pub data InOrder {V : Type 0} : List Entry → List (Answer V) → Type 0 where
  entry : {e : Entry} {es : List Entry} {a : Answer V} {rest : List (Answer V)} → EntryCame a → InOrder es rest → InOrder (e ∷ es) (a ∷ rest)
  last : {a : Answer V} → PlacingCame a → InOrder [] (a ∷ [])

-- What a job with these widths and heights comes to on a sheet made from an order: its entries and its placing are done in
-- turn, as a run of steps, and the answer tells what they came to; a placing fills lists as long as the cells ask for. They
-- are refused for nothing else than `InOrder` says.
pub record CameOn {V : Type 0} (k : Kind V) (numbers : V → List ℕ) (o : Order) (widths heights : List V) (j : JobFields) (out : List ℕ) : Type 0 where
  pub steps : List (Step V)
  pub asks : Asks j.turn widths heights j.entries steps
  pub answers : List (Answer V)
  pub ran : WholeRun k o steps answers
  pub filled : All (IsFilled o.count) answers
  pub in_order : InOrder j.entries answers
  pub tells : out ≡ told numbers j 0 answers

-- the same of a job in memory
abbrev pub CameBy : {V : Type 0} → Kind V → (V → List ℕ) → Order → Job V → List ℕ → Type 0
CameBy k numbers o j out = CameOn k numbers o (vec_items j.widths) (vec_items j.heights) (job_fields numbers j) out

-- What a job comes to, where k is its kind of length: its sheet is made from the order that its lists mean, turned.
pub record Comes {V : Type 0} (k : Kind V) (numbers : V → List ℕ) (j : JobFields) (out : List ℕ) : Type 0 where
  pub order : Order
  pub means : Means j.count j.order order
  pub widths : List V
  pub heights : List V
  pub wide : map numbers widths ≡ j.widths
  pub high : map numbers heights ≡ j.heights
  pub came : CameOn k numbers (turned_by j.turn order) widths heights j out

-- a job of either kind of length
abbrev pub ComesOf : AnyJob → List ℕ → Type 0
ComesOf (job.One j) out = (j.processes ≡ 1) × Comes plain_kind plain_numbers (job_fields plain_numbers j) out
ComesOf (job.Three j) out = (j.processes ≡ 3) × Comes process_kind process_numbers (job_fields process_numbers j) out

-- the file of why a file could not be read; there is none where memory ran out
abbrev pub RefusedBy : ReadError → List ℕ → Type 0
RefusedBy (error.Refused f) out = out ≡ refusal_bytes (field_told f)
RefusedBy error.Memory out = ⊥

-- What a file comes to: it is refused at its first fault; or it is a job, with one number a length or with three.
pub data Answers (file out : List ℕ) : Type 0 where
  refused : {f : FieldFault} → read_job_of file ≡ Err f → out ≡ refusal_bytes (field_told f) → Answers file out
  one : {j : JobFields} → read_job_of file ≡ Ok j → j.processes ≡ 1 → Comes plain_kind plain_numbers j out → Answers file out
  three : {j : JobFields} → read_job_of file ≡ Ok j → j.processes ≡ 3 → Comes process_kind process_numbers j out → Answers file out
