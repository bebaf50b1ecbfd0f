-- The edits of a sheet: what each would leave, its checks, and what it comes to.
use Rattle.std.specs.Prelude.{◌≡◌, ℕ, cond, Ok, Err, Result, ◌==◌}
use Rattle.refusal.specs.declared.fault.SheetFault.{SheetFault}
use Rattle.refusal.specs.declared.fault.SheetFault.TheVariants.{SameCell, Unplaceable}
use Rattle.book.specs.Order.{Order, swapped}
use Rattle.book.specs.Calls.{of_cells}
use Rattle.placement.specs.Meaning.{Meaning}
use Rattle.placement.specs.Couples.{First}
use Rattle.placement.specs.Placements.{Placeable}
use Rattle.group.specs.Edits.{nobody, paired, centred, freed, pair_check, centre_check, release_check}
use Rattle.group.specs.declared.table.Group.{Group}
use Rattle.group.specs.Group.{sheet_of}
use Rattle.sheet.specs.Sheets.{SameSheet}

pub data Edit : Type 0 where
  swap : ℕ → ℕ → Edit
  pair : ℕ → ℕ → Edit
  centre : ℕ → Edit
  release : ℕ → Edit

-- the sheet of a book with no group
abbrev pub fresh : Order → Meaning
fresh o = record { order = o; mate = nobody }

-- the sheet as the edit would leave it
abbrev pub after : Meaning → Edit → Meaning
after m (swap a b) = record { order = swapped a b m.order; mate = m.mate }
after m (pair a b) = record { order = m.order; mate = paired a b m.mate }
after m (centre a) = record { order = m.order; mate = centred a m.mate }
after m (release a) = record { order = m.order; mate = freed a m.mate }

-- the checks of an edit that do not ask for a placement, in their order
abbrev pub checked : Meaning → Edit → Result (Unit {0}) SheetFault
checked m (swap a b) = of_cells m.order.count a b (cond (a == b) (Err (SameCell a)) (Ok tt))
checked m (pair a b) = pair_check m.order.count m.mate a b
checked m (centre a) = centre_check m.order.count m.mate a
checked m (release a) = release_check m.order.count m.mate a

-- What an edit of the sheet m comes to, where p is the sheet afterwards: it fails a check; or it passes them, and the
-- sheet as it would leave it has no placement with any lawful whole-number sizes, which is told by the first forbidden
-- couple there; or that sheet has one, and the edit leaves it so.
pub data Edited (m : Meaning) (e : Edit) (p : Meaning) : Result (Unit {0}) SheetFault → Type 0 where
  unfit : {f : SheetFault} → checked m e ≡ Err f → SameSheet m p → Edited m e p (Err f)
  unplaceable : {x y : ℕ} → checked m e ≡ Ok tt → (Placeable (after m e) → ⊥) → First (after m e) x y → SameSheet m p → Edited m e p (Err (Unplaceable x y))
  done : checked m e ≡ Ok tt → Placeable (after m e) → SameSheet (after m e) p → Edited m e p (Ok tt)

-- An edit's promise, where o and g are the book's order and the group before it, and q and h afterwards.
abbrev pub Outcome : Order → Group → Edit → Order → Group → Result (Unit {0}) SheetFault → Type 0
Outcome o g e q h r = Edited (sheet_of o g) e (sheet_of q h) r

-- The sheet of o and g was given the group j: whatever edit makes this group and passes its checks comes to what is
-- promised of it.
abbrev pub Regrouped : Order → Group → Group → Order → Group → Result (Unit {0}) SheetFault → Type 0
Regrouped o g j q h r = (e : Edit) → checked (sheet_of o g) e ≡ Ok tt → SameSheet (after (sheet_of o g) e) (sheet_of o j) → Outcome o g e q h r

-- the fault tells the first forbidden couple
pub data TellsFirst (m : Meaning) : SheetFault → Type 0 where
  first : {x y : ℕ} → First m x y → TellsFirst m (Unplaceable x y)
