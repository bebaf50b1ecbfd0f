-- The entries of a group are read exactly.
use Rattle.std.proofs.Common.{◌≡◌, ℕ, zero, suc, true, List, [], ◌∷◌, ◌++◌, length, Ok, sym, refl, ap, ◌∙◌, subst, ap₂, arith}
use Rattle.std.proofs.lemmas.List.{append_assoc, append-nil, nil_from_length}
use Rattle.refusal.specs.declared.fault.FieldFault.TheVariants as fault
use Rattle.refusal.specs.declared.fault.SheetFault.TheVariants as sheet
use Rattle.numbers.specs.Number.{Storable}
use Rattle.formats.specs.declared.fields.Entry.{Entry}
use Rattle.formats.specs.Rules.{entry_fits}
use Rattle.formats.specs.Files.{entry_numbers}
use Rattle.formats.specs.Reading.{entry_of, entry, entries}
use Rattle.formats.specs.Writing.{pass_field, entries_check}
use Rattle.numbers.specs.Number.{EachStorable}
use Rattle.formats.proofs.Checks.{both_parts, both_from, passed, pass_from}
use Rattle.roundtrip.proofs.Exact.{Exact, Of, Then, exact_like, exact_good, exact_then, exact_part, exact_ok, exact_test}
use Rattle.roundtrip.proofs.Fields.{exact_number}

module _ (n : ℕ) (file : List ℕ) where
  abbrev Fits : List Entry → Entry → Type 0
  Fits before e = (entry_fits n before e ≡ true) × Storable e.first × Storable e.second

  exact_entry : (before : List Entry) → Exact file (entry n before file) (Of (Fits before) (λ e. e.first ∷ e.second ∷ []))
  exact_entry before =
      exact_good (λ e w. (w.1.1.0, w.0, w.1.0)) (λ e w. (w.1, (w.2, (w.0, refl))))
      (exact_part (λ e. e.first) (exact_number file)
      (λ p a. exact_part (λ e. e.second) (exact_number file) (λ q b. exact_test (entry_fits n before (entry_of a b)) (entry_of a b) (fault.GroupEntry p)) (λ b e _ h. sym (ap (λ e. e.second) h.1)))
      (λ a e _ h. sym (ap (λ e. e.first) h.1.1)))

  -- es are those before and k new ones, which are spelled by ns
  record Entered (k : ℕ) (before es : List Entry) (ns : List ℕ) : Type 0 where
    pub new : List Entry
    pub is : es ≡ before ++ new
    pub count : length new ≡ k
    pub lawful : entries_check n before new ≡ Ok tt
    pub storable : EachStorable (entry_numbers new)
    pub numbers : ns ≡ entry_numbers new

  abbrev More : ℕ → List Entry → List Entry → List ℕ → Type 0
  More k before = Then (Of (Fits before) (λ e. e.first ∷ e.second ∷ [])) (λ e. Entered k (before ++ (e ∷ [])))

  more_there : (k : ℕ) (before es : List Entry) (ns : List ℕ) → More k before es ns → Entered (suc k) before es ns
  more_there k before es ns w =
      let f = w.first.0 in
      let r = w.next in
      record {
        new = w.value ∷ r.new;
        is = r.is ∙ append_assoc before (w.value ∷ []) r.new;
        count = ap suc r.count;
        lawful = both_from (pass_from (sheet.Field (fault.GroupEntry 0)) f.0) r.lawful;
        storable = (f.1, (f.2, r.storable));
        numbers = w.joined ∙ ap₂ ◌++◌ w.first.1 r.numbers;
      }

  more_here : (k : ℕ) (before es : List Entry) (ns : List ℕ) (new : List Entry) → es ≡ before ++ new → length new ≡ suc k → entries_check n before new ≡ Ok tt → EachStorable (entry_numbers new) → ns ≡ entry_numbers new → More k before es ns
  more_here k before es ns [] is count lawful storable numbers = absurd (omega arith)
  more_here k before es ns (e ∷ new) is count lawful storable numbers =
      let b = both_parts (pass_field (entry_fits n before e) (fault.GroupEntry 0)) (entries_check n (before ++ (e ∷ [])) new) lawful in
      record {
        value = e;
        front = e.first ∷ e.second ∷ [];
        rest = entry_numbers new;
        first = ((passed (entry_fits n before e) _ b.0, storable.0, storable.1.0), refl);
        next = record { new = new; is = is ∙ sym (append_assoc before (e ∷ []) new); count = omega arith; lawful = b.1; storable = storable.1.1; numbers = refl };
        joined = numbers;
      }

  grown : (k : ℕ) (before : List Entry) → Exact file (entries n k before file) (Entered k before)
  grown zero before =
      exact_like
      (λ es ns w. record { new = []; is = w.0 ∙ sym (append-nil before); count = refl; lawful = refl; storable = tt; numbers = w.1 })
      (λ es ns w. let e = nil_from_length w.new w.count in (w.is ∙ ap (λ x. before ++ x) e ∙ append-nil before, w.numbers ∙ ap entry_numbers e))
      (exact_ok before)
  grown (suc k) before =
      exact_like (more_there k before) (λ es ns w. more_here k before es ns w.new w.is w.count w.lawful w.storable w.numbers)
      (exact_then (exact_entry before) (λ p e. grown k (before ++ (e ∷ []))))

  abbrev Good : ℕ → List Entry → Type 0
  Good k es = (length es ≡ k) × (entries_check n [] es ≡ Ok tt) × EachStorable (entry_numbers es)

  pub exact_entries : (k : ℕ) → Exact file (entries n k [] file) (Of (Good k) entry_numbers)
  exact_entries k =
      exact_like
      (λ es ns w. subst (λ x. Of (Good k) entry_numbers x ns) (sym w.is) ((w.count, w.lawful, w.storable), w.numbers))
      (λ es ns w. record { new = es; is = refl; count = w.0.0; lawful = w.0.1; storable = w.0.2; numbers = w.1 })
      (grown k [])
