-- The file of a refusal, and where in a job's file a fault of its sheet is told.
use Rattle.std.specs.Prelude.{ℕ, min, cond, List, [], ◌∷◌, length, position, unwrap_or, nat_lt}
use Rattle.numbers.specs.Number.{encode_all}
use Rattle.refusal.specs.declared.fault.SheetFault.{SheetFault}
use Rattle.refusal.specs.declared.fault.SheetFault.TheVariants as sheet
use Rattle.refusal.specs.declared.fault.Refusal.{Refusal}
use Rattle.refusal.specs.Register.{layer_number}
use Rattle.formats.specs.declared.fields.Entry.{Entry}
use Rattle.formats.specs.Rules.{names}
use Rattle.formats.specs.Files.{JobFields, entry_place}

-- a number as a file tells it: past the largest that a file can hold, that one
abbrev pub capped : ℕ → ℕ
capped v = min v 4294967295

-- the five numbers of a refusal
abbrev pub refusal_numbers : Refusal → List ℕ
refusal_numbers r = r.number ∷ layer_number r.layer ∷ capped r.offset ∷ capped r.first ∷ capped r.second ∷ []

abbrev pub refusal_bytes : Refusal → List ℕ
refusal_bytes r = encode_all (refusal_numbers r)

-- the index of the first entry that has the cell; how many there are, where none has
abbrev pub entry_with_cell : ℕ → List Entry → ℕ
entry_with_cell c es = unwrap_or (position (λ e. names e c) es) (length es)

-- where a fault of the placing is told: at the entry of its cell (a lawful job's placing has no other faults)
abbrev pub place_of_placing : JobFields → SheetFault → ℕ
place_of_placing j (sheet.PairSizesDiffer c _) = entry_place j (entry_with_cell c j.entries)
place_of_placing j (sheet.OddCentre c) = entry_place j (entry_with_cell c j.entries)
place_of_placing j (sheet.Field _) = 0
place_of_placing j (sheet.NotASize _ _) = 0
place_of_placing j (sheet.NoSuchCell _) = 0
place_of_placing j (sheet.SameCell _) = 0
place_of_placing j (sheet.AlreadyGrouped _) = 0
place_of_placing j (sheet.NotGrouped _) = 0
place_of_placing j (sheet.ListLength _) = 0
place_of_placing j (sheet.Unplaceable _ _) = 0

-- where a fault of step i is told: the first steps are the entries, and the placing comes after them
abbrev pub place_of_fault : JobFields → ℕ → SheetFault → ℕ
place_of_fault j i f = cond (nat_lt i (length j.entries)) (entry_place j i) (place_of_placing j f)
