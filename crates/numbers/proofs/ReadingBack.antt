-- The bytes of a number read as it, whatever follows; and bytes that read as a number begin with its bytes.
use Rattle.std.proofs.Common.{◌≡◌, ℕ, zero, suc, ◌+◌, ◌-◌, ◌*◌, ◌/◌, ◌%◌, ◌^◌, ◌<◌, ◌≤◌, true, false, ltb, List, [], ◌∷◌, ◌++◌, length, drop, sym, refl, ap, ◌∙◌, subst, ⊎_elim, add-one, arith}
use native.Mathlib.Nat.{pow-succ'}
use Rattle.std.proofs.lemmas.Bool.{cases_lt, cases_Bool, lt-ltb, le-ltb, cond-true, cond-false}
use Rattle.std.proofs.lemmas.Bool.Decides.{nat_tests}
use Rattle.numbers.specs.Number.{Storable, groups, encode, Got, got, short, bad, more, unlawful, tail, decode}
use Rattle.numbers.specs.Stored.{Bytes}
use Rattle.numbers.proofs.Encoded.{groups_last, groups_more}

lawful : (i b : ℕ) → (0 < i → 0 < b) → (i ≡ 4 → b ≤ 15) → unlawful i b ≡ false
lawful i b p q = grind (arith, nat_tests)

pub tail_last : (i b : ℕ) (bs : List ℕ) → unlawful i b ≡ false → b < 128 → tail i (b ∷ bs) ≡ got b 1
tail_last i b bs e h = cond-false (unlawful i b) _ _ e ∙ cond-true (ltb b 128) _ _ (lt-ltb b 128 h)

pub tail_more : (i b : ℕ) (bs : List ℕ) → unlawful i b ≡ false → 128 ≤ b → tail i (b ∷ bs) ≡ more b (tail (i + 1) bs)
tail_more i b bs e h = cond-false (unlawful i b) _ _ e ∙ cond-false (ltb b 128) _ _ (le-ltb b 128 h)

pub tail_bad : (i b : ℕ) (bs : List ℕ) → unlawful i b ≡ true → tail i (b ∷ bs) ≡ bad
tail_bad i b bs e = cond-true (unlawful i b) _ _ e

reads_groups : (k i v : ℕ) (rest : List ℕ) → i + k ≡ 4 → v < 16 * 128 ^ k → (0 < i → 0 < v) → tail i (groups k v ++ rest) ≡ got v (length (groups k v))
reads_groups zero i v rest e h p = tail_last i v rest (lawful i v p (λ _. omega arith)) (omega arith)
reads_groups (suc k) i v rest e h p =
    ⊎_elim
    (λ lt. rw (groups_last (suc k) v lt) (tail_last i v rest (lawful i v p (λ z. omega arith)) lt))
    (λ ge.
    let f : 0 < i → 0 < 128 + v % 128 = λ _. omega arith in
    let b : i ≡ 4 → 128 + v % 128 ≤ 15 = λ z. omega arith in
    let below : v / 128 < 16 * 128 ^ k = omega (arith, pow-succ' 128 k) in
    let ih = reads_groups k (i + 1) (v / 128) rest (omega arith) below (λ _. omega arith) in
    let m = tail_more i (128 + v % 128) (groups k (v / 128) ++ rest) (lawful i (128 + v % 128) f b) (omega arith) in
    let a : 128 + v % 128 - 128 + 128 * (v / 128) ≡ v = omega arith in
    rw (groups_more k v ge) (m ∙ ap (more (128 + v % 128)) ih ∙ rw (a, add-one)))
    (cases_lt v 128)

pub decode-encode : (v : ℕ) (rest : List ℕ) → Storable v → decode (encode v ++ rest) ≡ got v (length (encode v))
decode-encode v rest h = reads_groups 4 0 v rest refl (omega arith) (λ z. omega arith)

-- what tail i bs ≡ got v n says, at k groups before the last
pub record Was (k i : ℕ) (bs : List ℕ) (v n : ℕ) : Type 0 where
  pub small : v < 16 * 128 ^ k
  pub whole : 0 < i → 0 < v
  pub count : n ≡ length (groups k v)
  pub bytes : bs ≡ groups k v ++ drop n bs

pow_one : (k : ℕ) → 0 < 128 ^ k
pow_one zero = omega arith
pow_one (suc k) = omega (arith, pow-succ' 128 k, pow_one k)

was_last : (k i b : ℕ) (bs : List ℕ) → i + k ≡ 4 → unlawful i b ≡ false → b < 128 → Was k i (b ∷ bs) b 1
was_last zero i b bs e u h =
    let s : b ≤ 15 = grind (arith, nat_tests) in
    record { small = omega arith; whole = λ z. grind (arith, nat_tests); count = refl; bytes = refl }
was_last (suc k) i b bs e u h =
    let g = groups_last (suc k) b h in
    record { small = omega (arith, pow-succ' 128 k, pow_one k); whole = λ z. grind (arith, nat_tests); count = rw g; bytes = rw g }

was_more : (k i b : ℕ) (bs : List ℕ) (w m : ℕ) → 128 ≤ b → b < 256 → Was k (i + 1) bs w m → Was (suc k) i (b ∷ bs) (b - 128 + 128 * w) (m + 1)
was_more k i b bs w m h l r =
    let p : 0 < w = r.whole (omega arith) in
    let q : (b - 128 + 128 * w) / 128 ≡ w = omega arith in
    let d : 128 + (b - 128 + 128 * w) % 128 ≡ b = omega arith in
    let g : groups (suc k) (b - 128 + 128 * w) ≡ b ∷ groups k w = groups_more k (b - 128 + 128 * w) (omega arith) ∙ rw (q, d) in
    record {
      small = omega (arith, pow-succ' 128 k, r.small);
      whole = λ z. omega arith;
      count = rw (g, add-one) (ap suc r.count);
      bytes = rw (g, add-one) (ap (λ x. b ∷ x) r.bytes);
    }

only_more : (k i b : ℕ) (bs : List ℕ) (v n : ℕ) (g : Got) → i + k ≡ 4 → b < 256 → unlawful i b ≡ false → 128 ≤ b → ((j w m : ℕ) → i + 1 + j ≡ 4 → tail (i + 1) bs ≡ got w m → Was j (i + 1) bs w m) → tail (i + 1) bs ≡ g → more b g ≡ got v n → Was k i (b ∷ bs) v n
only_more zero i b bs v n g e t u h f x r = absurd (grind (arith, nat_tests))
only_more (suc k) i b bs v n (got w m) e t u h f x r =
    let y = was_more k i b bs w m h t (f k w m (omega arith) x) in
    let p : b - 128 + 128 * w ≡ v = cc in
    let q : m + 1 ≡ n = cc in
    subst (λ y. Was (suc k) i (b ∷ bs) v y) q (subst (λ y. Was (suc k) i (b ∷ bs) y (m + 1)) p y)
only_more (suc k) i b bs v n short e t u h f x r = absurd cc
only_more (suc k) i b bs v n bad e t u h f x r = absurd cc

only : (k i : ℕ) (bs : List ℕ) (v n : ℕ) → i + k ≡ 4 → Bytes bs → tail i bs ≡ got v n → Was k i bs v n
only k i [] v n e t r = absurd cc
only k i (b ∷ bs) v n e t r =
    ⊎_elim
    (λ u. absurd (let x = tail_bad i b bs u in cc))
    (λ u.
    ⊎_elim
    (λ h.
    let x = tail_last i b bs u h in
    let p : b ≡ v = cc in
    let q : ◌≡◌ {A = ℕ} 1 n = cc in
    subst (λ y. Was k i (b ∷ bs) v y) q (subst (λ y. Was k i (b ∷ bs) y 1) p (was_last k i b bs e u h)))
    (λ h. only_more k i b bs v n (tail (i + 1) bs) e t.0 u h (λ j w m a x. only j (i + 1) bs w m a t.1 x) refl (sym (tail_more i b bs u h) ∙ r))
    (cases_lt b 128))
    (cases_Bool (unlawful i b))

pub encode-decode : (bs : List ℕ) (v n : ℕ) → Bytes bs → decode bs ≡ got v n → Storable v × (n ≡ length (encode v)) × (bs ≡ encode v ++ drop n bs)
encode-decode bs v n t r = let w = only 4 0 bs v n refl t r in (omega (arith, w.small), w.count, w.bytes)
