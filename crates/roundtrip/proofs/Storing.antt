-- Lengths of any numbers that a file can hold.
use Rattle.std.proofs.Common.{◌≡◌, ℕ, true, List, [], ◌∷◌, ◌++◌, refl, arith}
use Rattle.formats.specs.Files.{by_cell}
use Rattle.formats.specs.Reading.{any}
use Rattle.formats.specs.Writing.{all}
use Rattle.numbers.specs.Number.{EachStorable}
use Rattle.roundtrip.proofs.Cells.{Rows}
use Rattle.roundtrip.proofs.Level.{Level, level_more}

-- numbers that a file can hold, in one list or two
pub storable_append : (us vs : List ℕ) → EachStorable us → EachStorable vs → EachStorable (us ++ vs)
storable_append [] vs s t = t
storable_append (u ∷ us) vs s t = (s.0, storable_append us vs s.1 t)

pub storable_parts : (us vs : List ℕ) → EachStorable (us ++ vs) → EachStorable us × EachStorable vs
storable_parts [] vs s = (tt, s)
storable_parts (u ∷ us) vs s = let t = storable_parts us vs s.1 in ((s.0, t.0), t.1)

pub all_any : (us : List ℕ) → all any us ≡ true
all_any [] = refl
all_any (u ∷ us) = all_any us

module _ (k : ℕ) where
  pub any_rows : (us vs : List (List ℕ)) → Level k us vs → EachStorable (by_cell us vs) → Rows any k us vs
  any_rows [] [] l s = tt
  any_rows [] (v ∷ vs) l s = absurd (omega (arith, l.same))
  any_rows (u ∷ us) [] l s = absurd (omega (arith, l.same))
  any_rows (u ∷ us) (v ∷ vs) l s =
      let m = level_more k u v us vs l in
      let x = storable_parts u (v ++ by_cell us vs) s in
      let y = storable_parts v (by_cell us vs) x.1 in
      ((m.0, all_any u, x.0), (m.1, all_any v, y.0), any_rows us vs m.2 y.1)

  pub rows_any : (us vs : List (List ℕ)) → Rows any k us vs → EachStorable (by_cell us vs)
  rows_any [] [] r = tt
  rows_any [] (v ∷ vs) r = absurd r
  rows_any (u ∷ us) [] r = absurd r
  rows_any (u ∷ us) (v ∷ vs) r = storable_append u (v ++ by_cell us vs) r.0.2 (storable_append v (by_cell us vs) r.1.2 (rows_any us vs r.2))
