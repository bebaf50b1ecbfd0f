-- Numbers that their rules allow are small enough for a file.
use Rattle.std.proofs.Common.{◌≡◌, ℕ, ◌≤◌, true, ltb, List, [], ◌∷◌, ◌++◌, length, Ok, arith}
use Rattle.std.proofs.lemmas.Bool.{and_parts, ltb-true}
use Rattle.std.proofs.lemmas.Bool.Decides.{nat_tests}
use Rattle.refusal.specs.declared.fault.FieldFault.{FieldFault}
use Rattle.numbers.specs.Number.{Storable, EachStorable}
use Rattle.formats.specs.declared.fields.BookKind.{BookKind}
use Rattle.formats.specs.declared.fields.BookKind.TheVariants.{SequencePair, Slicing}
use Rattle.formats.specs.Rules.{is_cell_count, is_processes, is_size_number, fits}
use Rattle.formats.specs.Writing.{pass_field, list_check, all}
use Rattle.formats.proofs.Checks.{both_parts, passed}

pub count_few : (n : ℕ) → is_cell_count n ≡ true → n ≤ 64
count_few n e = grind (arith, nat_tests)

pub count_small : (n : ℕ) → is_cell_count n ≡ true → Storable n
count_small n e = omega (arith, count_few n e)

pub processes_small : (k : ℕ) → is_processes k ≡ true → Storable k
processes_small k e = grind (arith, nat_tests)

size_small : (v : ℕ) → is_size_number v ≡ true → Storable v
size_small v e = grind (arith, nat_tests)

pub sizes_small : (us : List ℕ) → all is_size_number us ≡ true → EachStorable us
sizes_small [] e = tt
sizes_small (u ∷ us) e = let b = and_parts (is_size_number u) (all is_size_number us) e in (size_small u b.0, sizes_small us b.1)

fits_small : (kind : BookKind) (n : ℕ) (before : List ℕ) (v : ℕ) → n ≤ 64 → fits kind n before v ≡ true → Storable v
fits_small SequencePair n before v h e = let b = and_parts (ltb v n) _ e in omega (arith, ltb-true v n b.0)
fits_small Slicing n before v h e = grind (arith, nat_tests)

pub order_small : (kind : BookKind) (n : ℕ) (blame : ℕ → FieldFault) (before us : List ℕ) → n ≤ 64 → list_check (fits kind n) blame before us ≡ Ok tt → EachStorable us
order_small kind n blame before [] h e = tt
order_small kind n blame before (u ∷ us) h e =
    let b = both_parts (pass_field (fits kind n before u) (blame (length before))) (list_check (fits kind n) blame (before ++ (u ∷ [])) us) e in
    (fits_small kind n before u h (passed (fits kind n before u) _ b.0), order_small kind n blame (before ++ (u ∷ [])) us h b.1)
