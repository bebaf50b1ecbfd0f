-- What an edit comes to, by what the search for a forbidden couple found in the sheet as the edit left it.
use Rattle.std.proofs.Common.{◌≡◌, ℕ, Ok, Err, Result, sym, ap, ◌∙◌}
use Rattle.refusal.specs.declared.fault.SheetFault.{SheetFault}
use Rattle.placement.specs.Meaning.{Meaning, Lawful}
use Rattle.placement.specs.Couples.{Clean}
use Rattle.placement.specs.Theorems.{CleanExactlyPlaceable}
use Rattle.book.specs.Order.{Order}
use Rattle.group.specs.declared.table.Group.{Group}
use Rattle.group.specs.Group.{sheet_of}
use Rattle.sheet.specs.Sheets.{SameSheet, Sound}
use Rattle.sheet.specs.Edits.{Edit, Edited, unplaceable, done, after, checked, TellsFirst, first}
use Rattle.sheet.proofs.Same.{same_sym, lawful_there, clean_there, first_there}

-- a sheet that means what a sound one means is sound
pub sound_there : {o q : Order} {g h : Group} → SameSheet (sheet_of o g) (sheet_of q h) → h.count ≡ q.count → Sound o g → Sound q h
sound_there same counts sound = record { counts = counts; clean = clean_there same sound.clean }

-- the group's checks, which go by its own count, are those of the sheet
pub of_sheet : {o : Order} {g : Group} → Sound o g → (check : ℕ → Result (Unit {0}) SheetFault) → {r : Result (Unit {0}) SheetFault} → r ≡ check g.count → check o.count ≡ r
of_sheet sound check answer = sym (answer ∙ ap check sound.counts)

module _ (theorem : CleanExactlyPlaceable) {m p : Meaning} {e : Edit} (fit : checked m e ≡ Ok tt) (same : SameSheet (after m e) p) (lawful : Lawful p) where
  -- the sheet as the edit left it is clean
  pub done_edit : Clean p → Edited m e p (Ok tt)
  done_edit clean =
      let back = same_sym same in
      done fit ((theorem (after m e) (lawful_there back lawful)).0 (clean_there back clean)) same

  -- a couple was forbidden in the sheet as the edit left it, and all was put back
  pub undone_edit : {q : Meaning} {f : SheetFault} → TellsFirst p f → SameSheet m q → Edited m e q (Err f)
  undone_edit (first {x} {y} told) restored =
      let back = same_sym same in
      let couple = first_there back told in
      unplaceable fit (λ has. (theorem (after m e) (lawful_there back lawful)).1 has x y couple.here) couple restored
