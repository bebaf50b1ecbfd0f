-- Whole runs: what each step came to, from sheet to sheet.
use Rattle.std.specs.Prelude.{◌≡◌, ℕ, ◌*◌, List, [], ◌∷◌, length, Ok, Err, vec_items, Result}
use Rattle.std.specs.Borrow.{Bor}
use Rattle.refusal.specs.declared.fault.SheetFault.{SheetFault}
use Rattle.length.specs.Kind.{Kind}
use Rattle.book.specs.Order.{Order}
use Rattle.placement.specs.Meaning.{Meaning}
use Rattle.placing.specs.Placing.{Five, five, Placing}
use Rattle.sheet.specs.declared.steps.Step.{Step}
use Rattle.sheet.specs.declared.steps.Step.TheVariants as step
use Rattle.sheet.specs.declared.steps.Answer.{Answer}
use Rattle.sheet.specs.declared.steps.Answer.TheVariants as answer
use Rattle.sheet.specs.declared.steps.Coordinates.{Coordinates}
use Rattle.sheet.specs.Sheets.{SameSheet}
use Rattle.sheet.specs.Edits.{Edit, swap, pair, centre, release, Edited, fresh}

-- the step that makes an edit
abbrev pub edit_step : {V : Type 0} → Edit → Step V
edit_step (swap a b) = step.Swap a b
edit_step (pair a b) = step.Pair a b
edit_step (centre a) = step.Centre a
edit_step (release a) = step.Release a

-- lists for a placing of n cells to fill, whatever they hold
pub record Blank {V : Type 0} (n : ℕ) (l : Five V) : Type 0 where
  pub work_length : length l.work ≡ 2 * n
  pub x_length : length l.x ≡ n
  pub y_length : length l.y ≡ n

-- the lists of a step's widths and heights, as a placing filled the others
abbrev pub filled : {V : Type 0} → List V → List V → Coordinates V → Five V
filled w h c = five w h (vec_items c.work) (vec_items c.x) (vec_items c.y)

-- an edit's result, as the answer of a step
abbrev pub told : {V : Type 0} → Result (Unit {0}) SheetFault → Answer V
told (Ok _) = answer.Edited
told (Err f) = answer.Refused f

-- what a placing in lists made for it came to
pub data PlacedAnew {V : Type 0} (k : Kind V) (m : Meaning) (w h : List V) : Answer V → Type 0 where
  placed : {work x y : List V} {c : Coordinates V} → Blank m.order.count (five w h work x y) → Placing k m (five w h work x y) (filled w h c) (Ok c.extent) → PlacedAnew k m w h (answer.Placed c)
  unplaced : {work x y : List V} {f : SheetFault} → Blank m.order.count (five w h work x y) → Placing k m (five w h work x y) (five w h work x y) (Err f) → PlacedAnew k m w h (answer.Refused f)

-- What a step of a run came to, where m is the sheet before it and p the sheet afterwards: an edit by its own promise; a
-- placing by that of placings, and it changes no sheet.
pub data Came {V : Type 0} (k : Kind V) (m p : Meaning) : Step V → Answer V → Type 0 where
  an_edit : {e : Edit} {r : Result (Unit {0}) SheetFault} → Edited m e p r → Came k m p (edit_step e) (told r)
  a_placing : {w h : Bor (List V)} {a : Answer V} → PlacedAnew k m w.now h.now a → m ≡ p → Came k m p (step.Place w h) a

-- what the steps of a run came to, one after another
pub data Ran {V : Type 0} (k : Kind V) : Meaning → List (Step V) → List (Answer V) → Meaning → Type 0 where
  end : {m : Meaning} → Ran k m [] [] m
  next : {m p q : Meaning} {s : Step V} {a : Answer V} {steps : List (Step V)} {answers : List (Answer V)} → Came k m p s a → Ran k p steps answers q → Ran k m (s ∷ steps) (a ∷ answers) q

-- the lists of a placing are as long as n cells ask for
pub record Filled {V : Type 0} (n : ℕ) (c : Coordinates V) : Type 0 where
  pub work_length : length (vec_items c.work) ≡ 2 * n
  pub x_length : length (vec_items c.x) ≡ n
  pub y_length : length (vec_items c.y) ≡ n

-- an answer that tells of a placing has lists as long as that
abbrev pub IsFilled : {V : Type 0} → ℕ → Answer V → Type 0
IsFilled n answer.Edited = Unit {0}
IsFilled n (answer.Refused _) = Unit {0}
IsFilled n (answer.Placed c) = Filled n c

-- The whole promise: a run over a sheet made from a book of order o, whatever its steps. It starts from the book's
-- relations and an empty group, and every step, in turn, comes to what is promised of it.
pub record WholeRun {V : Type 0} (k : Kind V) (o : Order) (steps : List (Step V)) (answers : List (Answer V)) : Type 0 where
  pub start : Meaning
  pub last : Meaning
  pub starts : SameSheet (fresh o) start
  pub ran : Ran k start steps answers last
