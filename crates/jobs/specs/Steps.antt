-- What a job asks of its sheet: an edit for each group entry, in order, and then a placing.
use Rattle.std.specs.Prelude.{◌≡◌, ℕ, cond, List, [], ◌∷◌, ◌++◌, map, vec_items, ◌==◌}
use Rattle.std.specs.Borrow.{Bor}
use Rattle.book.specs.Order.{Order}
use Rattle.book.specs.Rows.{Rows}
use Rattle.book.specs.Slicing.{Expression}
use Rattle.book.specs.Turns.{transpose, flip, turned}
use Rattle.sheet.specs.declared.steps.Step.{Step}
use Rattle.sheet.specs.declared.steps.Step.TheVariants as step
use Rattle.formats.specs.declared.fields.Entry.{Entry}
use Rattle.formats.specs.declared.fields.Turn.{Turn}
use Rattle.formats.specs.declared.fields.Turn.TheVariants.{AsItIs, Transposed, Flipped, TransposedFlipped}
use Rattle.formats.specs.declared.job.Job.{Job}
use Rattle.formats.specs.Choices.{exchanges}
use Rattle.formats.specs.Files.{OrderFields, rows, expression}

-- the order of n cells that the lists of a job mean
abbrev pub Means : ℕ → OrderFields → Order → Type 0
Means n (rows first second) o = Rows n first second o
Means n (expression list) o = Expression n list o

-- the order of the sheet, which is made from the turned book
abbrev pub turned_by : Turn → Order → Order
turned_by AsItIs o = o
turned_by Transposed o = turned transpose o
turned_by Flipped o = turned flip o
turned_by TransposedFlipped o = turned transpose (turned flip o)

-- an entry asks for a pair, or for a centred cell where its two are one
abbrev pub step_of_entry : {V : Type 0} → Entry → Step V
step_of_entry e = cond (e.first == e.second) (step.Centre e.first) (step.Pair e.first e.second)

-- a placing; where the turn exchanges them, the widths of the file serve as heights and the heights as widths
pub record Places {V : Type 0} (turn : Turn) (widths heights : List V) (s : Step V) : Type 0 where
  pub w : Bor (List V)
  pub h : Bor (List V)
  pub wide : w.now ≡ cond (exchanges turn) heights widths
  pub high : h.now ≡ cond (exchanges turn) widths heights
  pub is : s ≡ step.Place w h

-- the steps of a job
pub record Asks {V : Type 0} (turn : Turn) (widths heights : List V) (entries : List Entry) (steps : List (Step V)) : Type 0 where
  pub placing : Step V
  pub places : Places turn widths heights placing
  pub are : steps ≡ map step_of_entry entries ++ (placing ∷ [])

-- the placing, and the steps, that a job in memory asks for
abbrev pub PlacedBy : {V : Type 0} → Job V → Step V → Type 0
PlacedBy j s = Places j.turn (vec_items j.widths) (vec_items j.heights) s

abbrev pub AskedBy : {V : Type 0} → Job V → List (Step V) → Type 0
AskedBy j steps = Asks j.turn (vec_items j.widths) (vec_items j.heights) (vec_items j.entries) steps
