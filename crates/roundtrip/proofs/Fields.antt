-- Numbers, fields and choices are read exactly.
use Rattle.std.proofs.Common.{◌≡◌, ℕ, Bool, true, List, [], ◌∷◌, Some, None, Ok, Err, Option, Result, sym, refl, ap, subst, arith}
use Rattle.std.proofs.lemmas.List.{append-nil}
use Rattle.refusal.specs.declared.fault.ByteFault.{ByteFault}
use Rattle.refusal.specs.declared.fault.FieldFault.{FieldFault}
use Rattle.numbers.specs.Number.{Storable, encode}
use Rattle.numbers.specs.Stored.{Stands}
use Rattle.numbers.specs.Calls.{number_at}
use Rattle.numbers.proofs.NumberLaws.{reads_back, only_so}
use Rattle.formats.specs.Reading.{in_field, number, field, chosen, choice}
use Rattle.formats.proofs.Checks.{never}
use Rattle.roundtrip.proofs.Exact.{Exact, Of, exact_good, exact_part, exact_ok, exact_test}

in_field_ok : (r : Result (ℕ × ℕ) ByteFault) (x : ℕ × ℕ) → in_field r ≡ Ok x → r ≡ Ok x
in_field_ok (Ok y) x e = cc
in_field_ok (Err f) x e = absurd (never e)

pub exact_number : (file : List ℕ) → Exact file (number file) (Of Storable (λ v. v ∷ []))
exact_number file = record {
  back = λ p v ns q w s.
      let t = subst (λ bs. Stands file p bs q) (append-nil (encode v)) (rw w.1 at s) in
      ap in_field (reads_back file p v q w.0 t);
  only = λ p v q b h r.
      let x = only_so file p v q b h (in_field_ok (number_at file p) (v, q) r) in
      (v ∷ [], (x.0, refl), subst (λ bs. Stands file p bs q) (sym (append-nil (encode v))) x.1);
}

pub exact_field : (file : List ℕ) (lawful : ℕ → Bool) (told : ℕ → ℕ → FieldFault) → Exact file (field lawful told file) (Of (λ v. (lawful v ≡ true) × Storable v) (λ v. v ∷ []))
exact_field file lawful told =
    exact_good (λ v w. (w.1.0, w.0)) (λ v w. (w.1, (w.0, refl)))
    (exact_part (λ v. v) (exact_number file) (λ p v. exact_test (lawful v) v (told p v)) (λ u v _ h. sym h.1))

exact_chosen : {A : Type 0} {file : List ℕ} (p : ℕ) (o : Option A) → Exact file (λ q. chosen p q o) (Of (λ a. o ≡ Some a) (λ _. []))
exact_chosen p (Some x) = exact_good (λ a w. cc) (λ a w. cc) (exact_ok x)
exact_chosen p None = record {
  back = λ p a ns q w s. absurd (let t = w.0 in cc);
  only = λ p a q b h r. absurd (never r);
}

-- a choice, where at most one number stands for each
pub exact_choice : {A : Type 0} (file : List ℕ) (known : ℕ → Option A) (number_of_lem : A → ℕ) → ((v : ℕ) (a : A) → known v ≡ Some a → v ≡ number_of_lem a) → Exact file (choice known file) (Of (λ a. Storable (number_of_lem a) × (known (number_of_lem a) ≡ Some a)) (λ a. number_of_lem a ∷ []))
exact_choice file known number_of_lem inverse = exact_part number_of_lem (exact_number file) (λ p v. exact_chosen p (known v)) (λ v a _ e. inverse v a e)
