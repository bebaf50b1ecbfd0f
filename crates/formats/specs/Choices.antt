-- The numbers that stand for something else: the kind of a book, a turn.
use Rattle.std.specs.Prelude.{ℕ, Bool, true, false, cond, Some, None, Option, Result, MatchResult, ◌≡◌, ◌==◌}
use Rattle.formats.specs.declared.fields.BookKind.{BookKind}
use Rattle.formats.specs.declared.fields.BookKind.TheVariants.{SequencePair, Slicing}
use Rattle.formats.specs.declared.fields.Turn.{Turn}
use Rattle.formats.specs.declared.fields.Turn.TheVariants.{AsItIs, Transposed, Flipped, TransposedFlipped}

-- a number stands for what `known` says, or for nothing, and r says which
abbrev pub StandsFor : {A E : Type 0} → (ℕ → Option A) → ℕ → Result A E → Type 0
StandsFor known v r = MatchResult r (λ a. known v ≡ Some a) (λ _. known v ≡ None)

abbrev pub book_of : ℕ → Option BookKind
book_of v = cond (v == 1) (Some SequencePair) (cond (v == 2) (Some Slicing) None)

abbrev pub book_number : BookKind → ℕ
book_number SequencePair = 1
book_number Slicing = 2

abbrev pub turn_of : ℕ → Option Turn
turn_of v = cond (v == 0) (Some AsItIs) (cond (v == 1) (Some Transposed) (cond (v == 2) (Some Flipped) (cond (v == 3) (Some TransposedFlipped) None)))

abbrev pub turn_number : Turn → ℕ
turn_number AsItIs = 0
turn_number Transposed = 1
turn_number Flipped = 2
turn_number TransposedFlipped = 3

-- the turns by which widths and heights, and x and y, change places
abbrev pub exchanges : Turn → Bool
exchanges AsItIs = false
exchanges Transposed = true
exchanges Flipped = false
exchanges TransposedFlipped = true
