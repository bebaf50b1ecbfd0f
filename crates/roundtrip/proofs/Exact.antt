-- A reader is exact where it reads a value from the numbers that spell it, and from no others; so are exact readers one after another.
use Rattle.std.proofs.Common.{◌≡◌, ℕ, ◌+◌, ◌≤◌, Bool, true, false, cond, List, [], ◌++◌, length, Ok, Err, sym, refl, ap, ◌∙◌, subst, ap₂}
use Rattle.std.proofs.lemmas.Bool.{false≢true}
use Rattle.refusal.specs.declared.fault.FieldFault.{FieldFault}
use Rattle.numbers.specs.Number.{encode_all}
use Rattle.numbers.specs.Stored.{Bytes, Stands}
use Rattle.numbers.proofs.Standing.{stands_join, stands_split, stands_none, stands_none_same}
use Rattle.numbers.proofs.Encoded.{encode_all_append}
use Rattle.formats.specs.Reading.{Reading, and_then}
use Rattle.formats.proofs.Checks.{never}

pub record Exact {A : Type 0} (file : List ℕ) (read : ℕ → Reading A) (S : A → List ℕ → Type 0) : Type 0 where
  pub back : (p : ℕ) (a : A) (ns : List ℕ) (q : ℕ) → S a ns → Stands file p (encode_all ns) q → read p ≡ Ok (a, q)
  pub only : (p : ℕ) (a : A) (q : ℕ) → Bytes file → p ≤ length file → read p ≡ Ok (a, q) → (ns : List ℕ) × S a ns × Stands file p (encode_all ns) q

-- what is good is spelled by its numbers
abbrev pub Of : {A : Type 0} → (A → Type 0) → (A → List ℕ) → A → List ℕ → Type 0
Of Good numbers a ns = Good a × (ns ≡ numbers a)

-- one value is spelled, and behind it another that depends on it
pub record Then {A C : Type 0} (S : A → List ℕ → Type 0) (T : A → C → List ℕ → Type 0) (c : C) (ns : List ℕ) : Type 0 where
  pub value : A
  pub front : List ℕ
  pub rest : List ℕ
  pub first : S value front
  pub next : T value c rest
  pub joined : ns ≡ front ++ rest

-- a spelling, or what is good, may be said in another way
pub exact_like : {A : Type 0} {file : List ℕ} {read : ℕ → Reading A} {S T : A → List ℕ → Type 0} → ((a : A) (ns : List ℕ) → S a ns → T a ns) → ((a : A) (ns : List ℕ) → T a ns → S a ns) → Exact file read S → Exact file read T
exact_like there here e = record {
  back = λ p a ns q t s. e.back p a ns q (here a ns t) s;
  only = λ p a q b h r. let x = e.only p a q b h r in (x.0, there a x.0 x.1, x.2);
}

pub exact_good : {A : Type 0} {file : List ℕ} {read : ℕ → Reading A} {G H : A → Type 0} {n : A → List ℕ} → ((a : A) → G a → H a) → ((a : A) → H a → G a) → Exact file read (Of G n) → Exact file read (Of H n)
exact_good there here e = exact_like (λ a ns w. (there a w.0, w.1)) (λ a ns w. (here a w.0, w.1)) e

then_parts : {A B : Type 0} (r : Reading A) (go : A → ℕ → Reading B) (b : B) (q : ℕ) → and_then r go ≡ Ok (b, q) → (a : A) × (p : ℕ) × (r ≡ Ok (a, p)) × (go a p ≡ Ok (b, q))
then_parts (Ok x) go b q e = (x.0, x.1, refl, e)
then_parts (Err f) go b q e = absurd (never e)

pub exact_then : {A C : Type 0} {file : List ℕ} {read : ℕ → Reading A} {go : ℕ → A → ℕ → Reading C} {S : A → List ℕ → Type 0} {T : A → C → List ℕ → Type 0} → Exact file read S → ((p : ℕ) (a : A) → Exact file (go p a) (T a)) → Exact file (λ p. and_then (read p) (go p)) (Then S T)
exact_then {file = file} {read = read} {go = go} e f = record {
  back = λ p c ns q w s.
      let both = subst (λ x. Stands file p x q) (ap encode_all w.joined ∙ encode_all_append w.front w.rest) s in
      let t = stands_split (encode_all w.front) (encode_all w.rest) both in
      let m : ℕ = p + length (encode_all w.front) in
      ap (λ r. and_then r (go p)) (e.back p w.value w.front m w.first t.0) ∙ (f p w.value).back m c w.rest q w.next t.1;
  only = λ p c q b h r.
      let x = then_parts (read p) (go p) c q r in
      let y = e.only p x.0 x.1 b h x.2 in
      let z = (f p x.0).only x.1 c q b y.2.inside x.3 in
      (y.0 ++ z.0, record { value = x.0; front = y.0; rest = z.0; first = y.1; next = z.1; joined = refl }, subst (λ w. Stands file p w q) (sym (encode_all_append y.0 z.0)) (stands_join y.2 z.2));
}

-- the same where the first value is a part of the second
pub exact_part : {A C : Type 0} {file : List ℕ} {read : ℕ → Reading A} {go : ℕ → A → ℕ → Reading C} {G : A → Type 0} {H : A → C → Type 0} {n : A → List ℕ} {m : C → List ℕ} (part : C → A) → Exact file read (Of G n) → ((p : ℕ) (a : A) → Exact file (go p a) (Of (H a) m)) → ((a : A) (c : C) → G a → H a c → a ≡ part c) → Exact file (λ p. and_then (read p) (go p)) (Of (λ c. G (part c) × H (part c) c) (λ c. n (part c) ++ m c))
exact_part {G = G} {H = H} {n = n} {m = m} part e f same =
    exact_like
    (λ c ns w.
    let s = same w.value c w.first.0 w.next.0 in
    ((subst G s w.first.0, subst (λ a. H a c) s w.next.0), w.joined ∙ ap₂ ◌++◌ (w.first.1 ∙ ap n s) w.next.1))
    (λ c ns w. record { value = part c; front = n (part c); rest = m c; first = (w.0.0, refl); next = (w.0.1, refl); joined = w.1 })
    (exact_then e f)

pub exact_ok : {A : Type 0} {file : List ℕ} (x : A) → Exact file (λ q. Ok (x, q)) (Of (λ a. a ≡ x) (λ _. []))
exact_ok {A} {file} x = record {
  back = λ p a ns q w s.
      let t = stands_none_same (subst (λ (ms : List ℕ). Stands file p (encode_all ms) q) w.1 s) in
      let y = w.0 in
      cc;
  only = λ p a q b h r.
      let same : ◌≡◌ {A = A × ℕ} (x, p) (a, q) = cc in
      ([], (sym (ap (λ y. y.0) same), refl), subst (λ (m : ℕ). Stands file p [] m) (ap (λ y. y.1) same) (stands_none file p h));
}

-- a test between, that reads nothing
pub exact_test : {A : Type 0} {file : List ℕ} (ok : Bool) (x : A) (f : FieldFault) → Exact file (λ q. cond ok (Ok (x, q)) (Err f)) (Of (λ a. (ok ≡ true) × (a ≡ x)) (λ _. []))
exact_test true x f = exact_good (λ a w. (refl, w)) (λ a w. w.1) (exact_ok x)
exact_test false x f = record {
  back = λ p a ns q w s. absurd (false≢true w.0.0);
  only = λ p a q b h r. absurd (never r);
}
