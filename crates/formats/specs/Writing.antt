-- What writing a file refuses, and what it leaves in the output.
use Rattle.std.specs.Prelude.{◌≡◌, ℕ, ◌+◌, ◌-◌, ◌*◌, ◌<◌, ◌≤◌, Bool, true, cond, ◌&&◌, List, [], ◌∷◌, ◌++◌, length, drop, Ok, Err, Result, ◌==◌}
use Rattle.refusal.specs.declared.fault.FieldFault.{FieldFault}
use Rattle.refusal.specs.declared.fault.FieldFault.TheVariants as fault
use Rattle.refusal.specs.declared.fault.SheetFault.{SheetFault}
use Rattle.refusal.specs.declared.fault.SheetFault.TheVariants as sheet
use Rattle.refusal.specs.declared.fault.Side.{Side}
use Rattle.refusal.specs.declared.fault.Side.TheVariants.{Width, Height}
use Rattle.formats.specs.declared.fields.BookKind.TheVariants.{SequencePair, Slicing}
use Rattle.formats.specs.declared.fields.Entry.{Entry}
use Rattle.formats.specs.Rules.{is_cell_count, is_processes, is_size_number, fits, entry_fits}
use Rattle.formats.specs.Files.{OrderFields, rows, expression, JobFields, PlacementFields}
use Rattle.formats.specs.Reading.{misordered}

-- a check passes, or tells its fault
abbrev pub Check : Type 0
Check = Result (Unit {0}) SheetFault

abbrev pub pass : Bool → SheetFault → Check
pass ok f = cond ok (Ok tt) (Err f)

-- one check after another: the first fault is told
abbrev pub both : Check → Check → Check
both (Ok _) next = next
both (Err f) next = Err f

-- a fault of a field that a caller gave
abbrev pub pass_field : Bool → FieldFault → Check
pass_field ok f = pass ok (sheet.Field f)

-- each number is lawful by its rule after those before it; else it is told by its index
abbrev pub list_check : (List ℕ → ℕ → Bool) → (ℕ → FieldFault) → List ℕ → List ℕ → Check
list_check rule told before [] = Ok tt
list_check rule told before (v ∷ vs) = both (pass_field (rule before v) (told (length before))) (list_check rule told (before ++ (v ∷ [])) vs)

-- the fault of the number at index i of list l of the order, which stands in no file
abbrev pub unplaced : ℕ → ℕ → FieldFault
unplaced l i = misordered l i 0

abbrev pub order_check : ℕ → OrderFields → Check
order_check n (rows first second) = both (list_check (fits SequencePair n) (unplaced 1) [] first) (list_check (fits SequencePair n) (unplaced 2) [] second)
order_check n (expression e) = list_check (fits Slicing n) (unplaced 1) [] e

abbrev pub all : (ℕ → Bool) → List ℕ → Bool
all lawful [] = true
all lawful (v ∷ vs) = lawful v && all lawful vs

-- each number of the length is one that a size may have
abbrev pub size_check : List ℕ → ℕ → Side → Check
size_check ns cell side = pass_field (all is_size_number ns) (fault.NotASize 0 cell side)

-- the width and the height of each cell, from this cell on
abbrev pub sizes_check : ℕ → List (List ℕ) → List (List ℕ) → Check
sizes_check cell [] hs = Ok tt
sizes_check cell (w ∷ ws) [] = Ok tt
sizes_check cell (w ∷ ws) (h ∷ hs) =
    both (size_check w cell Width) (both (size_check h cell Height) (sizes_check (cell + 1) ws hs))

abbrev pub entries_check : ℕ → List Entry → List Entry → Check
entries_check n before [] = Ok tt
entries_check n before (e ∷ es) = both (pass_field (entry_fits n before e) (fault.GroupEntry 0)) (entries_check n (before ++ (e ∷ [])) es)

-- n lengths of k numbers each
abbrev pub each_of : ℕ → List (List ℕ) → Bool
each_of k [] = true
each_of k (u ∷ us) = length u == k && each_of k us

abbrev pub are_long : ℕ → ℕ → List (List ℕ) → Bool
are_long n k us = length us == n && each_of k us

-- the list with this number, counted in file order, has the right length
abbrev pub length_check : Bool → ℕ → Check
length_check ok l = pass ok (sheet.ListLength l)

-- two lists of lengths, the first with this number
abbrev pub columns_check : ℕ → ℕ → ℕ → List (List ℕ) → List (List ℕ) → Check
columns_check n k l us vs = both (length_check (are_long n k us) l) (length_check (are_long n k vs) (l + 1))

abbrev pub lists_check : JobFields → OrderFields → Check
lists_check j (rows first second) =
    both (length_check (length first == j.count) 1)
    (both (length_check (length second == j.count) 2)
    (columns_check j.count j.processes 3 j.widths j.heights))
lists_check j (expression e) =
    both (length_check (length e == 2 * j.count - 1) 1)
    (columns_check j.count j.processes 2 j.widths j.heights)

-- the number of cells and the number of processes
abbrev pub counts_check : ℕ → ℕ → Check
counts_check n k = both (pass_field (is_cell_count n) (fault.CellCount 0 n)) (pass_field (is_processes k) (fault.UnknownChoice 0))

abbrev pub job_check : JobFields → Check
job_check j =
    both (counts_check j.count j.processes)
    (both (lists_check j j.order)
    (both (order_check j.count j.order)
    (both (sizes_check 0 j.widths j.heights)
    (entries_check j.count [] j.entries))))

abbrev pub placement_check : PlacementFields → Check
placement_check p = both (counts_check p.count p.processes) (columns_check p.count p.processes 1 p.x p.y)

-- What writing these bytes comes to, where out is the output before and out' afterwards: refused, no byte changes; else the
-- file stands at the front, and the bytes past it stay.
pub data Written (check : Check) (bs out out' : List ℕ) : Result ℕ SheetFault → Type 0 where
  refused : {f : SheetFault} → check ≡ Err f → out' ≡ out → Written check bs out out' (Err f)
  too_short : check ≡ Ok tt → length out < length bs → out' ≡ out → Written check bs out out' (Err (sheet.Field (fault.OutputTooShort (length bs))))
  whole : check ≡ Ok tt → length bs ≤ length out → out' ≡ bs ++ drop (length bs) out → Written check bs out out' (Ok (length bs))
