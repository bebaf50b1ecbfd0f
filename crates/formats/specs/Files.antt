-- What a job and a placement say, whatever holds them, and the numbers and bytes of their files.
use Rattle.std.specs.Prelude.{ℕ, List, [], ◌∷◌, ◌++◌, length, take}
use Rattle.numbers.specs.Number.{encode_all}
use Rattle.formats.specs.declared.fields.BookKind.{BookKind}
use Rattle.formats.specs.declared.fields.BookKind.TheVariants.{SequencePair, Slicing}
use Rattle.formats.specs.declared.fields.Turn.{Turn}
use Rattle.formats.specs.declared.fields.Entry.{Entry}
use Rattle.formats.specs.Choices.{book_number, turn_number}

-- the two rows of a sequence-pair, or a slicing expression
pub data OrderFields : Type 0 where
  rows : List ℕ → List ℕ → OrderFields
  expression : List ℕ → OrderFields

-- a job; a length is the list of its numbers
pub record JobFields : Type 0 where
  pub count : ℕ
  pub order : OrderFields
  pub turn : Turn
  pub processes : ℕ
  pub widths : List (List ℕ)
  pub heights : List (List ℕ)
  pub entries : List Entry

pub record PlacementFields : Type 0 where
  pub count : ℕ
  pub processes : ℕ
  pub half_span : List ℕ
  pub depth : List ℕ
  pub x : List (List ℕ)
  pub y : List (List ℕ)

abbrev pub book_kind_of : OrderFields → BookKind
book_kind_of (rows _ _) = SequencePair
book_kind_of (expression _) = Slicing

abbrev pub order_numbers : OrderFields → List ℕ
order_numbers (rows first second) = first ++ second
order_numbers (expression list) = list

-- two lengths of each cell, one after the other, cell by cell
abbrev pub by_cell : List (List ℕ) → List (List ℕ) → List ℕ
by_cell [] vs = []
by_cell (u ∷ us) [] = []
by_cell (u ∷ us) (v ∷ vs) = u ++ (v ++ by_cell us vs)

abbrev pub entry_numbers : List Entry → List ℕ
entry_numbers [] = []
entry_numbers (e ∷ es) = e.first ∷ e.second ∷ entry_numbers es

-- what stands in a job's file before its entries
abbrev pub before_entries : JobFields → List ℕ
before_entries j = book_number (book_kind_of j.order) ∷ j.count ∷ (order_numbers j.order ++ (turn_number j.turn ∷ j.processes ∷ (by_cell j.widths j.heights ++ (length j.entries ∷ []))))

abbrev pub job_numbers : JobFields → List ℕ
job_numbers j = before_entries j ++ entry_numbers j.entries

abbrev pub placement_numbers : PlacementFields → List ℕ
placement_numbers p = 0 ∷ p.count ∷ p.processes ∷ (p.half_span ++ (p.depth ++ by_cell p.x p.y))

abbrev pub job_bytes : JobFields → List ℕ
job_bytes j = encode_all (job_numbers j)

-- the place in a job's file at which the entry with this index begins; past the last entry, the file's length
abbrev pub entry_place : JobFields → ℕ → ℕ
entry_place j i = length (encode_all (before_entries j ++ entry_numbers (take i j.entries)))

abbrev pub placement_bytes : PlacementFields → List ℕ
placement_bytes p = encode_all (placement_numbers p)
