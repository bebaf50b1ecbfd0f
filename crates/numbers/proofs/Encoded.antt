-- The bytes of a number: which they are, how many, and that each is a byte; and the bytes of several numbers.
use Rattle.std.proofs.Common.{◌≡◌, ℕ, zero, suc, ◌+◌, ◌*◌, ◌/◌, ◌%◌, ◌^◌, ◌<◌, ◌≤◌, ltb, List, [], ◌∷◌, ◌++◌, length, sym, refl, ap, ◌∙◌, ⊎_elim, arith}
use native.Mathlib.Nat.{pow-succ'}
use Rattle.std.proofs.lemmas.List.{append_assoc, length-append}
use Rattle.std.proofs.lemmas.Bool.{cases_lt, lt-ltb, le-ltb, cond-true, cond-false}
use Rattle.std.proofs.lemmas.Bool.Decides.{nat_tests}
use Rattle.numbers.specs.Number.{Storable, groups, encode, encode_all}
use Rattle.numbers.specs.Stored.{Bytes}

pub groups_last : (k v : ℕ) → v < 128 → groups k v ≡ v ∷ []
groups_last zero v h = refl
groups_last (suc k) v h = cond-true (ltb v 128) _ _ (lt-ltb v 128 h)

pub groups_more : (k v : ℕ) → 128 ≤ v → groups (suc k) v ≡ (128 + v % 128) ∷ groups k (v / 128)
groups_more k v h = cond-false (ltb v 128) _ _ (le-ltb v 128 h)

pub groups_some : (k v : ℕ) → 0 < length (groups k v)
groups_some zero v = omega arith
groups_some (suc k) v = grind (arith, nat_tests)

groups_few : (k v : ℕ) → length (groups k v) ≤ k + 1
groups_few zero v = omega arith
groups_few (suc k) v =
    ⊎_elim
    (λ lt. rw (groups_last (suc k) v lt) (omega arith))
    (λ ge. rw (groups_more k v ge) (omega (arith, groups_few k (v / 128))))
    (cases_lt v 128)

groups_bytes : (k v : ℕ) → v < 16 * 128 ^ k → Bytes (groups k v)
groups_bytes zero v h = (omega arith, tt)
groups_bytes (suc k) v h =
    ⊎_elim
    (λ lt. rw (groups_last (suc k) v lt) (omega arith, tt))
    (λ ge. rw (groups_more k v ge) (omega arith, groups_bytes k (v / 128) (omega (arith, pow-succ' 128 k))))
    (cases_lt v 128)

pub encode_few : (v : ℕ) → length (encode v) ≤ 5
encode_few v = groups_few 4 v

pub encode-some : (v : ℕ) → 1 ≤ length (encode v)
encode-some v = groups_some 4 v

pub encode_bytes : (v : ℕ) → Storable v → Bytes (encode v)
encode_bytes v h = groups_bytes 4 v (omega arith)

pub bytes_append : (bs cs : List ℕ) → Bytes bs → Bytes cs → Bytes (bs ++ cs)
bytes_append [] cs s t = t
bytes_append (b ∷ bs) cs s t = (s.0, bytes_append bs cs s.1 t)

pub encode_all_append : (vs ws : List ℕ) → encode_all (vs ++ ws) ≡ encode_all vs ++ encode_all ws
encode_all_append [] ws = refl
encode_all_append (v ∷ vs) ws = ap (λ x. encode v ++ x) (encode_all_append vs ws) ∙ sym (append_assoc (encode v) (encode_all vs) (encode_all ws))

pub encode_all_few : (vs : List ℕ) → length (encode_all vs) ≤ 5 * length vs
encode_all_few [] = omega arith
encode_all_few (v ∷ vs) = omega (arith, length-append (encode v) (encode_all vs), encode_few v, encode_all_few vs)
