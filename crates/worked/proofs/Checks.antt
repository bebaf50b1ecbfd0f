-- A case that passes its checks comes out.
use Rattle.std.proofs.Common.{◌≡◌, ℕ, Bool, true, false, ◌&&◌, eqb, List, [], ◌∷◌, length, Some, None, Ok, Err, Result, refl, ap}
use Rattle.std.proofs.lemmas.Bool.{false≢true, and_parts, eqb-true}
use Rattle.refusal.specs.declared.fault.ByteFault.{ByteFault}
use Rattle.refusal.specs.declared.fault.ByteFault.TheVariants.{Ends, NotShortest}
use Rattle.refusal.specs.declared.fault.SheetFault.{SheetFault}
use Rattle.book.specs.declared.relation.Relation.{Relation}
use Rattle.book.specs.Calls.{asked}
use Rattle.length.specs.Kind.{Laws}
use Rattle.length.specs.Kinds.{plain_kind}
use Rattle.placement.specs.Meaning.{Meaning}
use Rattle.placement.specs.Theorems.{CleanExactlyPlaceable}
use Rattle.placement.proofs.ValuesExist.{values_exist_lem}
use Rattle.placement.proofs.RulePlaces.{rule_places_lem}
use Rattle.placement.proofs.Unplaceable.{forbidden_unplaceable_lem}
use Rattle.placement.proofs.Placeable.{clean_exactly_placeable_lem}
use Rattle.numbers.specs.Number.{encode}
use Rattle.numbers.specs.Calls.{number_at}
use Rattle.worked.specs.Cases.{Sheet, Call, lies, refuses, places, odd, Case, sheet, number, misshapen, edited, start, ComesTo, AllCome, ComesOut, AllComeOut}
use Rattle.worked.proofs.Tests.{so}
use Rattle.worked.proofs.Orders.{same?, keeps?, keeps_laws_lem}
use Rattle.worked.proofs.Couples.{sound, is_sound, clean?, clean, does_all, all_done, refused, is_refused}
use Rattle.worked.proofs.Meanings.{Found, found}
use Rattle.worked.proofs.Placings.{is_odd, refused_odd, is_placed, place}

-- Calls

abbrev tells : Relation → Result Relation SheetFault → Bool
tells r (Ok s) = (same? s r).holds
tells r (Err f) = false

is_told : (r : Relation) (answer : Result Relation SheetFault) → tells r answer ≡ true → answer ≡ Ok r
is_told r (Ok s) e = ap Ok (so (same? s r) e)
is_told r (Err f) e = absurd (false≢true e)

abbrev comes : Meaning → Call → Bool
comes m (lies a b r) = tells r (asked m.order a b)
comes m (refuses e x y) = refused m e x y
comes m (places v) = (sound m && (clean? m).holds) && is_placed m v
comes m (odd w h a) = is_odd m w h a

abbrev all_come : Meaning → List Call → Bool
all_come m [] = true
all_come m (c ∷ cs) = comes m c && all_come m cs

abbrev on_order : (s : Sheet) → List Call → Found s.count s.order → Bool
on_order s calls None = false
on_order s calls (Some (o, means)) = (keeps? o).holds && (does_all (start s o) s.edits && all_come (edited (start s o) s.edits) calls)

-- Numbers

abbrev same_bytes : List ℕ → List ℕ → Bool
same_bytes [] [] = true
same_bytes [] (c ∷ cs) = false
same_bytes (b ∷ bs) [] = false
same_bytes (b ∷ bs) (c ∷ cs) = eqb b c && same_bytes bs cs

are_same : (bs cs : List ℕ) → same_bytes bs cs ≡ true → bs ≡ cs
are_same [] [] e = refl
are_same [] (c ∷ cs) e = absurd (false≢true e)
are_same (b ∷ bs) [] e = absurd (false≢true e)
are_same (b ∷ bs) (c ∷ cs) e =
    let (here, rest) = and_parts _ _ e in
    let p = eqb-true b c here in
    let q = are_same bs cs rest in
    cc

abbrev reads_as : ℕ → ℕ → Result (ℕ × ℕ) ByteFault → Bool
reads_as v n (Ok (u, k)) = eqb u v && eqb k n
reads_as v n (Err f) = false

is_read : (v n : ℕ) (r : Result (ℕ × ℕ) ByteFault) → reads_as v n r ≡ true → r ≡ Ok (v, n)
is_read v n (Ok (u, k)) e =
    let (p, q) = and_parts _ _ e in
    let same = eqb-true u v p in
    let behind = eqb-true k n q in
    cc
is_read v n (Err f) e = absurd (false≢true e)

abbrev at_first : ByteFault → Bool
at_first (NotShortest p) = eqb p 0
at_first (Ends p) = false

abbrev is_misshapen : Result (ℕ × ℕ) ByteFault → Bool
is_misshapen (Ok r) = false
is_misshapen (Err f) = at_first f

not_shortest : (r : Result (ℕ × ℕ) ByteFault) → is_misshapen r ≡ true → r ≡ Err (NotShortest 0)
not_shortest (Ok r) e = absurd (false≢true e)
not_shortest (Err (NotShortest p)) e = ap (λ k. Err (NotShortest k)) (eqb-true p 0 e)
not_shortest (Err (Ends p)) e = absurd (false≢true e)

-- Cases

abbrev checks : Case → Bool
checks (sheet s calls) = on_order s calls (found s.count s.order)
checks (number v bytes) = same_bytes (encode v) bytes && reads_as v (length bytes) (number_at bytes 0)
checks (misshapen bytes) = is_misshapen (number_at bytes 0)

abbrev pub all_check : List Case → Bool
all_check [] = true
all_check (c ∷ cs) = checks c && all_check cs

module _ (laws : Laws plain_kind) where
  theorem : CleanExactlyPlaceable
  theorem = clean_exactly_placeable_lem (values_exist_lem laws) (rule_places_lem laws) (forbidden_unplaceable_lem laws)

  come : (m : Meaning) (c : Call) → comes m c ≡ true → ComesTo m c
  come m (lies a b r) e = is_told r (asked m.order a b) e
  come m (refuses edit x y) e = is_refused theorem m edit x y e
  come m (places v) e =
      let (fine, is) = and_parts _ _ e in
      let (lawful, neat) = and_parts _ _ fine in
      place m v laws (is_sound m lawful) (clean m neat) is
  come m (odd w h a) e = refused_odd m w h a e

  calls_come : (m : Meaning) (cs : List Call) → all_come m cs ≡ true → AllCome m cs
  calls_come m [] e = tt
  calls_come m (c ∷ cs) e = let (here, rest) = and_parts _ _ e in (come m c here, calls_come m cs rest)

  on_found : (s : Sheet) (calls : List Call) (f : Found s.count s.order) → on_order s calls f ≡ true → ComesOut (sheet s calls)
  on_found s calls None e = absurd (false≢true e)
  on_found s calls (Some (o, means)) e =
      let (keeps, rest) = and_parts _ _ e in
      let (done, so_called) = and_parts _ _ rest in
      (o, keeps_laws_lem o (so (keeps? o) keeps), means, all_done theorem (start s o) s.edits done, calls_come (edited (start s o) s.edits) calls so_called)

  comes_out : (c : Case) → checks c ≡ true → ComesOut c
  comes_out (sheet s calls) e = on_found s calls (found s.count s.order) e
  comes_out (number v bytes) e = let (p, q) = and_parts _ _ e in (are_same (encode v) bytes p, is_read v (length bytes) (number_at bytes 0) q)
  comes_out (misshapen bytes) e = not_shortest (number_at bytes 0) e

  pub all_come_out : (cs : List Case) → all_check cs ≡ true → AllComeOut cs
  all_come_out [] e = tt
  all_come_out (c ∷ cs) e = let (here, rest) = and_parts _ _ e in (comes_out c here, all_come_out cs rest)
