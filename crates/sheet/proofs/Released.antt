-- A release is done or fails a check, and never makes a sheet unplaceable.
use Rattle.std.proofs.Common.{◌≡◌, ℕ, Bool, true, false, cond, eqb, Some, None, Ok, Err, Result, ◌∙◌, MatchResult}
use Rattle.refusal.specs.declared.fault.SheetFault.{SheetFault}
use Rattle.book.specs.Order.{Order, Laws}
use Rattle.placement.specs.Meaning.{Meaning}
use Rattle.placement.specs.Couples.{Clean}
use Rattle.placement.specs.Theorems.{CleanExactlyPlaceable}
use Rattle.group.specs.declared.table.Group.{Group}
use Rattle.group.specs.Group.{mate_of, sheet_of}
use Rattle.group.specs.Edits.{Mates, freed, names, release_check}
use Rattle.group.proofs.LawfulSheet.{lawful_sheet}
use Rattle.sheet.specs.Sheets.{SameSheet, Sound}
use Rattle.sheet.specs.Edits.{release, after, unfit, Outcome}
use Rattle.sheet.proofs.Same.{order_refl, clean_there}
use Rattle.sheet.proofs.Outcomes.{sound_there, of_sheet, done_edit}

-- whoever has a mate after a release had it before
kept : (mate : Mates) (a x y : ℕ) → freed a mate x ≡ Some y → mate x ≡ Some y
kept mate a x y e = go (eqb x a) (names (mate a) x) e
  where
    go : (s t : Bool) → cond s None (cond t None (mate x)) ≡ Some y → mate x ≡ Some y
    go true t q = cc
    go false true q = cc
    go false false q = q

-- and freeing a cell forbids no couple
release_clean : (m : Meaning) (a : ℕ) → Clean m → Clean (after m (release a))
release_clean m a clean x y f =
    clean x y
    (record {
      mx = f.mx;
      my = f.my;
      x_mate = record { cell = f.x_mate.cell; told = kept m.mate a x f.mx f.x_mate.told };
      y_mate = record { cell = f.y_mate.cell; told = kept m.mate a y f.my f.y_mate.told };
      clash = f.clash;
    })

module _ (o : Order) (g h : Group) (a : ℕ) (sound : Sound o g) (counts : h.count ≡ g.count) where
  same_mates : ((x : ℕ) → mate_of h x ≡ mate_of g x) → SameSheet (sheet_of o g) (sheet_of o h)
  same_mates mates = record { order = order_refl o; mate = λ x _. mates x }

  same_freed : ((x : ℕ) → mate_of h x ≡ freed a (mate_of g) x) → SameSheet (after (sheet_of o g) (release a)) (sheet_of o h)
  same_freed mates = record { order = order_refl o; mate = λ x _. mates x }

  pub released_sound : (r : Result (Unit {0}) SheetFault) → MatchResult r (λ _. (x : ℕ) → mate_of h x ≡ freed a (mate_of g) x) (λ _. (x : ℕ) → mate_of h x ≡ mate_of g x) → Sound o h
  released_sound (Ok _) mates = record {
    counts = counts ∙ sound.counts;
    clean = clean_there (same_freed mates) (release_clean (sheet_of o g) a sound.clean);
  }
  released_sound (Err f) mates = sound_there (same_mates mates) (counts ∙ sound.counts) sound

  checks : {r : Result (Unit {0}) SheetFault} → r ≡ release_check g.count (mate_of g) a → release_check o.count (mate_of g) a ≡ r
  checks = of_sheet sound (λ (n : ℕ). release_check n (mate_of g) a)

  pub release_outcome : CleanExactlyPlaceable → Laws o → (r : Result (Unit {0}) SheetFault) → r ≡ release_check g.count (mate_of g) a → MatchResult r (λ _. (x : ℕ) → mate_of h x ≡ freed a (mate_of g) x) (λ _. (x : ℕ) → mate_of h x ≡ mate_of g x) → Outcome o g (release a) o h r
  release_outcome theorem laws (Ok tt) answer mates =
      let after = released_sound (Ok tt) mates in
      done_edit theorem (checks answer) (same_freed mates) (lawful_sheet o h laws after.counts) after.clean
  release_outcome theorem laws (Err f) answer mates = unfit (checks answer) (same_mates mates)
