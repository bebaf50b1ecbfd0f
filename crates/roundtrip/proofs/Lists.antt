-- A list of so many numbers, each judged by those before it, is read exactly.
use Rattle.std.proofs.Common.{◌≡◌, ℕ, zero, suc, Bool, true, List, [], ◌∷◌, ◌++◌, length, Ok, sym, refl, ap, ◌∙◌, subst, arith}
use Rattle.std.proofs.lemmas.List.{append_assoc, append-nil, nil_from_length}
use Rattle.refusal.specs.declared.fault.FieldFault.{FieldFault}
use Rattle.refusal.specs.declared.fault.SheetFault.TheVariants as sheet
use Rattle.numbers.specs.Number.{Storable}
use Rattle.formats.specs.Reading.{list}
use Rattle.formats.specs.Writing.{pass_field, list_check}
use Rattle.numbers.specs.Number.{EachStorable}
use Rattle.formats.proofs.Checks.{both_parts, both_from, passed, pass_from}
use Rattle.roundtrip.proofs.Exact.{Exact, Of, Then, exact_like, exact_then, exact_ok}
use Rattle.roundtrip.proofs.Fields.{exact_field}

module _ (rule : List ℕ → ℕ → Bool) (told : ℕ → ℕ → FieldFault) (blame : ℕ → FieldFault) (file : List ℕ) where
  -- vs are those before and then ns, k of them
  pub record Listed (k : ℕ) (before vs ns : List ℕ) : Type 0 where
    pub is : vs ≡ before ++ ns
    pub count : length ns ≡ k
    pub lawful : list_check rule blame before ns ≡ Ok tt
    pub storable : EachStorable ns

  abbrev Good : ℕ → List ℕ → Type 0
  Good k us = (length us ≡ k) × (list_check rule blame [] us ≡ Ok tt) × EachStorable us

  abbrev One : List ℕ → ℕ → List ℕ → Type 0
  One before = Of (λ v. (rule before v ≡ true) × Storable v) (λ v. v ∷ [])

  abbrev More : ℕ → List ℕ → List ℕ → List ℕ → Type 0
  More k before = Then (One before) (λ v. Listed k (before ++ (v ∷ [])))

  more_there : (k : ℕ) (before vs ns : List ℕ) → More k before vs ns → Listed (suc k) before vs ns
  more_there k before vs ns w =
      let v = w.value in
      let f = w.first.0 in
      let r = w.next in
      subst (Listed (suc k) before vs) (sym (w.joined ∙ ap (λ x. x ++ w.rest) w.first.1))
      (record {
        is = r.is ∙ append_assoc before (v ∷ []) w.rest;
        count = ap suc r.count;
        lawful = both_from (pass_from (sheet.Field (blame (length before))) f.0) r.lawful;
        storable = (f.1, r.storable);
      })

  more_here : (k : ℕ) (before vs ns : List ℕ) → Listed (suc k) before vs ns → More k before vs ns
  more_here k before vs [] w = absurd (omega (arith, w.count))
  more_here k before vs (v ∷ ns) w =
      let b = both_parts (pass_field (rule before v) (blame (length before))) (list_check rule blame (before ++ (v ∷ [])) ns) w.lawful in
      record {
        value = v;
        front = v ∷ [];
        rest = ns;
        first = ((passed (rule before v) _ b.0, w.storable.0), refl);
        next = record { is = w.is ∙ sym (append_assoc before (v ∷ []) ns); count = omega (arith, w.count); lawful = b.1; storable = w.storable.1 };
        joined = refl;
      }

  grown : (k : ℕ) (before : List ℕ) → Exact file (list rule told k before file) (Listed k before)
  grown zero before =
      exact_like
      (λ vs ns w. subst (Listed 0 before vs) (sym w.1) (record { is = w.0 ∙ sym (append-nil before); count = refl; lawful = refl; storable = tt }))
      (λ vs ns w. let e = nil_from_length ns w.count in (w.is ∙ ap (λ x. before ++ x) e ∙ append-nil before, e))
      (exact_ok before)
  grown (suc k) before =
      exact_like (more_there k before) (more_here k before)
      (exact_then (exact_field file (rule before) (λ at _. told (length before) at)) (λ p v. grown k (before ++ (v ∷ []))))

  pub exact_list : (k : ℕ) → Exact file (list rule told k [] file) (Of (Good k) (λ us. us))
  exact_list k =
      exact_like
      (λ us ns w. subst (λ xs. Of (Good k) (λ us. us) xs ns) (sym w.is) ((w.count, w.lawful, w.storable), refl))
      (λ us ns w. subst (Listed k [] us) (sym w.1) (record { is = refl; count = w.0.0; lawful = w.0.1; storable = w.0.2 }))
      (grown k [])
