-- The laws of a format, from a reader that is exact over every file.
use Rattle.std.proofs.Common.{◌≡◌, ℕ, Bool, true, false, cond, eqb, ◌⊎◌, List, length, Ok, Err, Result, sym, refl, ap, ◌∙◌, inl, inr, arith}
use Rattle.std.proofs.lemmas.Bool.{eqb-true, eq-eqb}
use Rattle.refusal.specs.declared.fault.FieldFault.{FieldFault}
use Rattle.refusal.specs.declared.fault.FieldFault.TheVariants as fault
use Rattle.numbers.specs.Number.{encode_all}
use Rattle.numbers.specs.Stored.{Bytes}
use Rattle.numbers.proofs.Standing.{stands_all, stands_whole}
use Rattle.formats.specs.Reading.{Reading, unless, at_end}
use Rattle.roundtrip.specs.Laws.{Format}
use Rattle.formats.proofs.Checks.{never}
use Rattle.roundtrip.proofs.Exact.{Exact, Of}

at_end_ok : {A : Type 0} (file : List ℕ) (r : Reading A) (a : A) → at_end file r ≡ Ok a → (q : ℕ) × (r ≡ Ok (a, q)) × (q ≡ length file)
at_end_ok {A} file (Ok x) a e = go (eqb x.1 (length file)) refl e
  where
    go : (b : Bool) → eqb x.1 (length file) ≡ b → unless (cond b (Ok tt) (Err (fault.TrailingBytes x.1))) x.0 ≡ Ok a → (q : ℕ) × (◌≡◌ {A = Reading A} (Ok x) (Ok (a, q))) × (q ≡ length file)
    go true t e = let s : x.0 ≡ a = cc in (x.1, ap (λ y. Ok (y, x.1)) s, eqb-true x.1 (length file) t)
    go false t e = absurd (never e)
at_end_ok file (Err f) a e = absurd (never e)

at_end_all : {A : Type 0} (file : List ℕ) (a : A) → at_end file (Ok (a, length file)) ≡ Ok a
at_end_all file a = ap (λ b. unless (cond b (Ok tt) (Err (fault.TrailingBytes (length file)))) a) (eq-eqb (length file) (length file) refl)

module _ {A : Type 0} (read : List ℕ → ℕ → Reading A) (Lawful : A → Type 0) (numbers : A → List ℕ) (exact : (file : List ℕ) → Exact file (read file) (Of Lawful numbers)) where
  abbrev whole : List ℕ → Result A FieldFault
  whole file = at_end file (read file 0)

  abbrev bytes : A → List ℕ
  bytes a = encode_all (numbers a)

  back : (a : A) → Lawful a → whole (bytes a) ≡ Ok a
  back a law = ap (at_end (bytes a)) ((exact (bytes a)).back 0 a (numbers a) (length (bytes a)) (law, refl) (stands_all (bytes a))) ∙ at_end_all (bytes a) a

  only : (file : List ℕ) (a : A) → Bytes file → whole file ≡ Ok a → Lawful a × (file ≡ bytes a)
  only file a b e =
      let x = at_end_ok file (read file 0) a e in
      let y = (exact file).only 0 a x.0 b (omega arith) x.1 in
      (y.1.0, stands_whole y.2 x.2 ∙ ap encode_all y.1.1)

  pub format : Format whole bytes Lawful
  format = record {
    back = back;
    only = only;
    apart = λ a b la lb e.
        let x = back a la in
        let y = back b lb in
        let z : whole (bytes a) ≡ whole (bytes b) = ap whole e in
        cc;
    either = λ file b. go file b (whole file) refl;
  }
    where
      go : (file : List ℕ) → Bytes file → (r : Result A FieldFault) → whole file ≡ r → ((a : A) × Lawful a × (file ≡ bytes a)) ⊎ ((f : FieldFault) × (whole file ≡ Err f) × ((a : A) → Lawful a → file ≡ bytes a → ⊥))
      go file b (Ok a) e = let x = only file a b e in inl (a, x.0, x.1)
      go file b (Err f) e = inr (f, e, λ a law same. never (sym e ∙ ap whole same ∙ back a law))
