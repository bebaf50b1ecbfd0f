-- The sizes of a job, as they are read and as they are checked.
use Rattle.std.proofs.Common.{◌≡◌, ℕ, ◌+◌, List, [], ◌∷◌, Ok, refl, arith}
use Rattle.refusal.specs.declared.fault.FieldFault.TheVariants as fault
use Rattle.refusal.specs.declared.fault.SheetFault.TheVariants as sheet
use Rattle.refusal.specs.declared.fault.Side.TheVariants.{Width, Height}
use Rattle.formats.specs.Rules.{is_size_number}
use Rattle.formats.specs.Writing.{pass_field, sizes_check, all}
use Rattle.formats.proofs.Checks.{both_parts, both_from, passed, pass_from}
use Rattle.roundtrip.proofs.Cells.{Rows}
use Rattle.formats.proofs.Small.{sizes_small}
use Rattle.roundtrip.proofs.Level.{Level, level_more}

module _ (k : ℕ) where
  pub sized_rows : (cell : ℕ) (us vs : List (List ℕ)) → Level k us vs → sizes_check cell us vs ≡ Ok tt → Rows is_size_number k us vs
  sized_rows cell [] [] l e = tt
  sized_rows cell [] (v ∷ vs) l e = absurd (omega (arith, l.same))
  sized_rows cell (u ∷ us) [] l e = absurd (omega (arith, l.same))
  sized_rows cell (u ∷ us) (v ∷ vs) l e =
      let m = level_more k u v us vs l in
      let b = both_parts (pass_field (all is_size_number u) (fault.NotASize 0 cell Width)) _ e in
      let c = both_parts (pass_field (all is_size_number v) (fault.NotASize 0 cell Height)) (sizes_check (cell + 1) us vs) b.1 in
      let x = passed (all is_size_number u) _ b.0 in
      let y = passed (all is_size_number v) _ c.0 in
      ((m.0, x, sizes_small u x), (m.1, y, sizes_small v y), sized_rows (cell + 1) us vs m.2 c.1)

  pub rows_sized : (cell : ℕ) (us vs : List (List ℕ)) → Rows is_size_number k us vs → sizes_check cell us vs ≡ Ok tt
  rows_sized cell [] [] r = refl
  rows_sized cell [] (v ∷ vs) r = absurd r
  rows_sized cell (u ∷ us) [] r = absurd r
  rows_sized cell (u ∷ us) (v ∷ vs) r =
      both_from (pass_from (sheet.Field (fault.NotASize 0 cell Width)) r.0.1)
      (both_from (pass_from (sheet.Field (fault.NotASize 0 cell Height)) r.1.1) (rows_sized (cell + 1) us vs r.2))
