-- A list whose back was lent and written: its front is as it was, and its back is what was written.
use Rattle.std.proofs.Common.{◌≡◌, ℕ, ◌+◌, ◌-◌, ◌<◌, ◌≤◌, List, [], ◌++◌, length, get_or, take, drop, Some, None, Option, sym, refl, ap, ◌∙◌, arith, length-drop}
use borrow.Rule.Slice.PartMut.{put_mid}
use Rattle.std.proofs.lemmas.List.{drop_all, append-nil, get_or-append-add, get_or_append_left, get_or-take, get_or-drop, take_rest, length-take-le}
use Rattle.placing.specs.Codes.{image_of, mirrored}

module _ {X : Type 0} (n : ℕ) (xs ys : List X) (within : n ≤ length xs) where
  put_back : put_mid n (length xs - n) xs ys ≡ take n xs ++ ys
  put_back =
      let gone : drop (length xs - n) (drop n xs) ≡ [] = drop_all (length xs - n) (drop n xs) (omega (arith, length-drop n xs)) in
      ap (λ (z : List X). take n xs ++ z) (ap (λ (z : List X). ys ++ z) gone ∙ append-nil ys)

  pub front_stays : (i : ℕ) (d : X) → i < n → get_or (put_mid n (length xs - n) xs ys) i d ≡ get_or xs i d
  front_stays i d low =
      let long : length (take n xs) ≡ n = length-take-le n xs within in
      ap (λ (z : List X). get_or z i d) put_back
      ∙ get_or_append_left (take n xs) ys d i (omega arith)
      ∙ get_or-take n xs i d low

  pub back_written : (i : ℕ) (d : X) → get_or (put_mid n (length xs - n) xs ys) (n + i) d ≡ get_or ys i d
  back_written i d =
      let long : length (take n xs) ≡ n = length-take-le n xs within in
      ap (λ (z : List X). get_or z (n + i) d) put_back
      ∙ ap (λ (z : ℕ). get_or (take n xs ++ ys) (z + i) d) (sym long)
      ∙ get_or-append-add (take n xs) ys i d

-- The front was kept elsewhere, and the back has at each place what stood at the mate's there, or its own.
module _ {X : Type 0} (n : ℕ) (xs front back : List X) (within : n ≤ length xs) (z : X) (mate : ℕ → Option ℕ) (inside : (a b : ℕ) → mate a ≡ Some b → b < n)
    (kept : front ≡ take (n - 0) (drop 0 xs))
    (written : (a : ℕ) → a < n → get_or back a z ≡ mirrored (get_or (take (length xs - n) (drop n xs)) a z) (λ (b : ℕ). get_or front b z) (mate a))
  where
    front_read : (b : ℕ) → b < n → get_or front b z ≡ get_or xs b z
    front_read b low =
        let whole : n - 0 ≡ n = omega arith in
        ap (λ (l : List X). get_or l b z) (kept ∙ ap (λ (i : ℕ). take i xs) whole) ∙ get_or-take n xs b z low

    back_read : (a : ℕ) → get_or (take (length xs - n) (drop n xs)) a z ≡ get_or xs (n + a) z
    back_read a = ap (λ (l : List X). get_or l a z) (take_rest xs n) ∙ get_or-drop n xs a z

    by_mate : (a : ℕ) (told : Option ℕ) → mate a ≡ told → mirrored (get_or (take (length xs - n) (drop n xs)) a z) (λ (b : ℕ). get_or front b z) told ≡ get_or xs (image_of n a told) z
    by_mate a (Some b) e = front_read b (inside a b e)
    by_mate a None e = back_read a

    pub back_mirrors : (a : ℕ) → a < n → get_or (put_mid n (length xs - n) xs back) (n + a) z ≡ get_or xs (image_of n a (mate a)) z
    back_mirrors a low = back_written n xs back within a z ∙ written a low ∙ by_mate a (mate a) refl
