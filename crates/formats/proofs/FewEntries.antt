-- Entries that fit are of cells, and no more than there are cells.
use Rattle.std.proofs.Common.{◌≡◌, ℕ, ◌+◌, ◌<◌, ◌≤◌, true, ◌&&◌, ltb, leb, List, [], ◌∷◌, ◌++◌, length, Ok, refl, arith}
use Rattle.std.proofs.lemmas.List.{length_push}
use Rattle.std.proofs.lemmas.Bool.{and_parts, and_from, ltb-true, leb-true}
use Rattle.refusal.specs.declared.fault.FieldFault.TheVariants as fault
use Rattle.formats.specs.declared.fields.Entry.{Entry}
use Rattle.formats.specs.Rules.{follows, entry_follows_all, entry_fits}
use Rattle.formats.specs.Files.{entry_numbers}
use Rattle.formats.specs.Writing.{pass_field, entries_check}
use Rattle.numbers.specs.Number.{EachStorable}
use Rattle.formats.proofs.Checks.{both_parts, passed}

-- an entry that may follow more entries may follow each
pub follows_both : (before : List Entry) (e next : Entry) → entry_follows_all (before ++ (e ∷ [])) next ≡ true → (entry_follows_all before next ≡ true) × (follows e next ≡ true)
follows_both [] e next r = (refl, (and_parts (follows e next) true r).0)
follows_both (b ∷ before) e next r =
    let p = and_parts (follows b next) (entry_follows_all (before ++ (e ∷ [])) next) r in
    let q = follows_both before e next p.1 in
    (and_from (follows b next) (entry_follows_all before next) p.0 q.0, q.1)

module _ (n : ℕ) where
  -- an entry that fits, and the entries behind it
  pub fitting : (before : List Entry) (e : Entry) (es : List Entry) → entries_check n before (e ∷ es) ≡ Ok tt → (e.first ≤ e.second) × (e.second < n) × (entry_follows_all before e ≡ true) × (entries_check n (before ++ (e ∷ [])) es ≡ Ok tt)
  fitting before e es r =
      let b = both_parts (pass_field (entry_fits n before e) (fault.GroupEntry 0)) (entries_check n (before ++ (e ∷ [])) es) r in
      let c = and_parts (leb e.first e.second && ltb e.second n) (entry_follows_all before e) (passed (entry_fits n before e) _ b.0) in
      let d = and_parts (leb e.first e.second) (ltb e.second n) c.0 in
      (leb-true e.first e.second d.0, ltb-true e.second n d.1, c.1, b.1)

  pub entries_small : (before es : List Entry) → n ≤ 64 → entries_check n before es ≡ Ok tt → EachStorable (entry_numbers es)
  entries_small before [] h r = tt
  entries_small before (e ∷ es) h r =
      let f = fitting before e es r in
      (omega arith, (omega arith, entries_small (before ++ (e ∷ [])) es h f.3))

  follows_last : (before : List Entry) (e next : Entry) → entry_follows_all (before ++ (e ∷ [])) next ≡ true → e.first < next.first
  follows_last before e next r = let b = and_parts (ltb e.first next.first) _ (and_parts _ _ (follows_both before e next r).1).0 in ltb-true e.first next.first b.0

  -- the first cells grow, and are cells
  entries_few_from : (before es : List Entry) → entries_check n before es ≡ Ok tt → ((e : Entry) → entry_follows_all before e ≡ true → length before ≤ e.first) → length before ≤ n → length before + length es ≤ n
  entries_few_from before [] r below h = omega arith
  entries_few_from before (e ∷ es) r below h =
      let f = fitting before e es r in
      let l = length_push before e in
      let here = below e f.2 in
      let next : (d : Entry) → entry_follows_all (before ++ (e ∷ [])) d ≡ true → length (before ++ (e ∷ [])) ≤ d.first = λ d g. omega (arith, follows_last before e d g) in
      omega (arith, entries_few_from (before ++ (e ∷ [])) es f.3 next (omega arith))

  pub entries_few : (es : List Entry) → entries_check n [] es ≡ Ok tt → length es ≤ n
  entries_few es r = omega (arith, entries_few_from [] es r (λ e g. omega arith) (omega arith))
