-- One turn of writing a number: the bytes so far and the groups of what is left are the bytes of the number.
use Rattle.std.proofs.Common.{◌≡◌, ℕ, zero, suc, ◌+◌, ◌*◌, ◌/◌, ◌%◌, ◌^◌, ◌<◌, ◌≤◌, List, [], ◌∷◌, ◌++◌, length, get_or, take, drop, set, ap, ◌∙◌, ⊎_elim, add-one, arith, drop-cons}
use native.Mathlib.Nat.{pow-succ'}
use Rattle.std.proofs.lemmas.Bool.{cases_lt}
use Rattle.std.proofs.lemmas.List.{append_assoc, length-append, length-take, drop-drop, take_all, take_more_set}
use Rattle.std.proofs.Math.Seq.{set-append_seam}
use Rattle.numbers.specs.Number.{groups, encode}
use Rattle.numbers.specs.Stored.{put}
use Rattle.numbers.proofs.Encoded.{groups_last, groups_more, groups_some}
use Rattle.numbers.proofs.NumberLaws.{writing_frames}

-- the first i of the bytes are written, and rest is left, of which at most k groups come before the last
pub record Left (v : ℕ) (bytes : List ℕ) (i rest k : ℕ) : Type 0 where
  pub small : rest < 16 * 128 ^ k
  pub makes : take i bytes ++ groups k rest ≡ encode v

-- more than one group is of a number that has more than seven bits, and one group of no more
several : (k v : ℕ) → 1 < length (groups k v) → 128 ≤ v
several k v h = ⊎_elim (λ few. absurd (omega (arith, ap length (groups_last k v few)))) (λ more. more) (cases_lt v 128)

only_one : (k v : ℕ) → v < 16 * 128 ^ k → length (groups k v) ≡ 1 → v < 128
only_one zero v small e = omega arith
only_one (suc k) v small e = ⊎_elim (λ few. few) (λ more. absurd (omega (arith, ap length (groups_more k v more), groups_some k (v / 128)))) (cases_lt v 128)

module _ (v : ℕ) (bytes : List ℕ) (long : length bytes + 1 ≡ length (encode v)) where
  -- how many groups are left
  left_long : (i rest k : ℕ) → i ≤ length bytes → Left v bytes i rest k → i + length (groups k rest) ≡ length bytes + 1
  left_long i rest k h l = omega (arith, ap length l.makes, length-append (take i bytes) (groups k rest), length-take i bytes)

  pub left_more : (i rest k : ℕ) → i < length bytes → Left v bytes i rest k → (j : ℕ) × Left v (set bytes i (rest % 128 + 128)) (i + 1) (rest / 128) j
  left_more i rest zero h l = absurd (omega (arith, left_long i rest zero (omega arith) l))
  left_more i rest (suc k) h l =
      let n = left_long i rest (suc k) (omega arith) l in
      let more = several (suc k) rest (omega arith) in
      let c : rest % 128 + 128 ≡ 128 + rest % 128 = omega arith in
      let m : take (i + 1) (set bytes i (rest % 128 + 128)) ++ groups k (rest / 128) ≡ encode v =
      rw (take_more_set bytes i (rest % 128 + 128) h, append_assoc, c, ← groups_more k rest more) l.makes in
      (k, record { small = omega (arith, l.small, pow-succ' 128 k); makes = m })

  -- one byte is left
  pub left_last : (rest k : ℕ) → Left v bytes (length bytes) rest k → (rest < 128) × (bytes ++ (rest ∷ []) ≡ encode v)
  left_last rest k l =
      let one = only_one k rest l.small (omega (arith, left_long (length bytes) rest k (omega arith) l)) in
      (one, rw (take_all (length bytes) bytes (omega arith), groups_last k rest one) at l.makes)

-- where all but the last byte stand, the last completes the number
pub written : (out : List ℕ) (at v : ℕ) (bytes : List ℕ) (rest k p : ℕ) → k ≡ length bytes → p ≡ at + length bytes → at + length (encode v) ≤ length out → bytes ++ (rest ∷ []) ≡ encode v
    → set (take at out ++ (bytes ++ drop k (drop at out))) p rest ≡ put out at (encode v)
written out at v bytes rest k p long last h e =
    let n : length bytes + 1 ≡ length (encode v) = omega (arith, ap length e, length-append bytes (rest ∷ [])) in
    let here : length (take at out ++ bytes) ≡ at + length bytes = omega (arith, length-append (take at out) bytes, length-take at out) in
    let y = get_or out (at + length bytes) 0 in
    let ys = drop (at + length bytes + 1) out in
    let d : drop (length bytes) (drop at out) ≡ y ∷ ys = drop-drop (length bytes) at out ∙ rw add-one (drop-cons out (at + length bytes) 0 (omega arith)) in
    let q : at + length (encode v) ≡ at + length bytes + 1 = omega arith in
    let f = writing_frames out at (encode v) h in
    let g : put out at (encode v) ≡ take at out ++ (encode v ++ ys) = rw q at f in
    cc (d, long, last, here, g, append_assoc (take at out) bytes (y ∷ ys), set-append_seam (take at out ++ bytes) y ys rest, append_assoc (take at out) bytes (rest ∷ ys), append_assoc bytes (rest ∷ []) ys)
