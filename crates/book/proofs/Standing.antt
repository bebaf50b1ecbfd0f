-- Rows as lists: where a number stands, that none stands twice, and what two rows keep when one is put after the other.
use Rattle.std.proofs.Common.{◌≡◌, ℕ, zero, suc, ◌+◌, ◌-◌, ◌<◌, ◌≤◌, ◌⊎◌, Bool, true, false, eqb, List, [], ◌∷◌, ◌++◌, length, get_or, Decides, sym, refl, ◌∙◌, inl, inr, ⊎_elim, add_comm, arith, length-append}
use Rattle.std.proofs.lemmas.List.{length_push, get_or_append_left, get_or-append-add, get_or-append_right, get_or_default}
use Rattle.std.proofs.lemmas.List.Elements.{contains_decides}
use Rattle.std.proofs.lemmas.Bool.Decides.{Decides-like, Decides-eqb, Decides-by_or, eqb_tells, not_from_Decides}
use Rattle.std.proofs.lemmas.Map.Keys.{IsDistinct-from_apart}
use Rattle.std.proofs.lemmas.Map.Steps.{length-le_from_distinct_below}
use Rattle.std.specs.List.{IsAnyAnswer, list_any}
use Rattle.std.proofs.lemmas.Bool.{cases_lt, cases_order}
use Rattle.book.specs.Rows.{Earlier, Breaks, Row}

abbrev pub Stands : List ℕ → ℕ → Type 0
Stands row a = (i : ℕ) × (i < length row) × (get_or row i 0 ≡ a)

-- no number stands twice
abbrev pub Single : List ℕ → Type 0
Single row = (i j : ℕ) → i < length row → j < length row → get_or row i 0 ≡ get_or row j 0 → i ≡ j

-- what a search of a row finds
pub found_stands : (k : ℕ) (row : List ℕ) (found : Bool) → IsAnyAnswer (λ y t. eqb y k ≡ t) row found → Decides found (Stands row k)
found_stands k row found some =
    Decides-like found (λ r. (r.0, r.1, r.2 0)) (λ s. (s.0, s.1, λ d. get_or_default row s.0 d 0 s.1 ∙ s.2))
    (contains_decides eqb Decides-eqb row k found some)

-- whether a number stands in a row
any_stands : (row : List ℕ) (a : ℕ) → Decides (list_any (eqb a) row) (Stands row a)
any_stands row a =
    Decides-like _ (λ r. (r.0, r.1, sym (r.2 0))) (λ s. (s.0, s.1, λ d. sym (get_or_default row s.0 d 0 s.1 ∙ s.2)))
    (Decides-by_or (eqb a) (λ x. a ≡ x) (list_any (eqb a)) (Decides-eqb a) refl (λ _ _. refl) row)

-- One row after another

stands_left : (xs ys : List ℕ) {a : ℕ} → Stands xs a → Stands (xs ++ ys) a
stands_left xs ys s = let l = length-append xs ys in let h = s.1 in (s.0, omega arith, get_or_append_left xs ys 0 s.0 s.1 ∙ s.2)

stands_right : (xs ys : List ℕ) {a : ℕ} → Stands ys a → Stands (xs ++ ys) a
stands_right xs ys s = let l = length-append xs ys in let h = s.1 in (length xs + s.0, omega arith, get_or-append-add xs ys s.0 0 ∙ s.2)

stands_either : (xs ys : List ℕ) {a : ℕ} → Stands (xs ++ ys) a → Stands xs a ⊎ Stands ys a
stands_either xs ys s =
    let l = length-append xs ys in
    let h = s.1 in
    ⊎_elim
    (λ (k : s.0 < length xs). inl (s.0, k, sym (get_or_append_left xs ys 0 s.0 k) ∙ s.2))
    (λ (k : length xs ≤ s.0). inr (s.0 - length xs, omega arith, sym (get_or-append_right xs ys (length xs) s.0 0 refl k) ∙ s.2))
    (cases_lt s.0 (length xs))

earlier_left : (xs ys : List ℕ) {a b : ℕ} → Earlier xs a b → Earlier (xs ++ ys) a b
earlier_left xs ys e =
    let l = length-append xs ys in
    let first : e.i < length xs = omega (arith, e.ahead, e.inside) in
    record {
      i = e.i;
      j = e.j;
      ahead = e.ahead;
      inside = omega (arith, e.inside);
      here = get_or_append_left xs ys 0 e.i first ∙ e.here;
      there = get_or_append_left xs ys 0 e.j e.inside ∙ e.there;
    }

earlier_right : (xs ys : List ℕ) {a b : ℕ} → Earlier ys a b → Earlier (xs ++ ys) a b
earlier_right xs ys e =
    let l = length-append xs ys in
    record {
      i = length xs + e.i;
      j = length xs + e.j;
      ahead = omega (arith, e.ahead);
      inside = omega (arith, e.inside);
      here = get_or-append-add xs ys e.i 0 ∙ e.here;
      there = get_or-append-add xs ys e.j 0 ∙ e.there;
    }

pub earlier_across : (xs ys : List ℕ) {a b : ℕ} → Stands xs a → Stands ys b → Earlier (xs ++ ys) a b
earlier_across xs ys s t =
    let l = length-append xs ys in
    let h = s.1 in
    let k = t.1 in
    record {
      i = s.0;
      j = length xs + t.0;
      ahead = omega arith;
      inside = omega arith;
      here = get_or_append_left xs ys 0 s.0 s.1 ∙ s.2;
      there = get_or-append-add xs ys t.0 0 ∙ t.2;
    }

-- In a row without repetition

pub never_both : {row : List ℕ} {a b : ℕ} → Single row → Earlier row a b → Earlier row b a → ⊥
never_both single e f =
    let one = single e.i f.j (omega (arith, e.ahead, e.inside)) f.inside (e.here ∙ sym f.there) in
    let two = single e.j f.i e.inside (omega (arith, f.ahead, f.inside)) (e.there ∙ sym f.here) in
    omega (arith, e.ahead, f.ahead)

earlier_differ : {row : List ℕ} {a b : ℕ} → Single row → Earlier row a b → a ≡ b → ⊥
earlier_differ single e same =
    let z = single e.i e.j (omega (arith, e.ahead, e.inside)) e.inside (e.here ∙ same ∙ sym e.there) in omega (arith, e.ahead)

pub earlier_places : {row : List ℕ} {a b : ℕ} → Single row → Earlier row a b → Stands row a × Stands row b × (a ≡ b → ⊥)
earlier_places single e = ((e.i, omega (arith, e.ahead, e.inside), e.here), (e.j, e.inside, e.there), earlier_differ single e)

pub single_left : (xs ys : List ℕ) → Single (xs ++ ys) → Single xs
single_left xs ys single i j p q e =
    let l = length-append xs ys in
    single i j (omega arith) (omega arith) (get_or_append_left xs ys 0 i p ∙ e ∙ sym (get_or_append_left xs ys 0 j q))

single_right : (xs ys : List ℕ) → Single (xs ++ ys) → Single ys
single_right xs ys single i j p q e =
    let l = length-append xs ys in
    let z = single (length xs + i) (length xs + j) (omega arith) (omega arith) (get_or-append-add xs ys i 0 ∙ e ∙ sym (get_or-append-add xs ys j 0)) in
    omega arith

single_apart : (xs ys : List ℕ) → Single (xs ++ ys) → (a : ℕ) → Stands xs a → Stands ys a → ⊥
single_apart xs ys single a s t = earlier_differ single (earlier_across xs ys s t) refl

single_append : (xs ys : List ℕ) → Single xs → Single ys → ((a : ℕ) → Stands xs a → Stands ys a → ⊥) → Single (xs ++ ys)
single_append xs ys one two apart i j p q e =
    let l = length-append xs ys in
    let low : (k : ℕ) → k < length xs → get_or (xs ++ ys) k 0 ≡ get_or xs k 0 = λ k. get_or_append_left xs ys 0 k in
    let high : (k : ℕ) → length xs ≤ k → get_or (xs ++ ys) k 0 ≡ get_or ys (k - length xs) 0 = λ k. get_or-append_right xs ys (length xs) k 0 refl in
    ⊎_elim
    (λ (h : i < length xs).
    ⊎_elim
    (λ (k : j < length xs). one i j h k (sym (low i h) ∙ e ∙ low j k))
    (λ (k : length xs ≤ j). absurd (apart (get_or xs i 0) (i, h, refl) (j - length xs, omega arith, sym (high j k) ∙ sym e ∙ low i h)))
    (cases_lt j (length xs)))
    (λ (h : length xs ≤ i).
    ⊎_elim
    (λ (k : j < length xs). absurd (apart (get_or xs j 0) (j, k, refl) (i - length xs, omega arith, sym (high i h) ∙ e ∙ low j k)))
    (λ (k : length xs ≤ j). let z = two (i - length xs) (j - length xs) (omega arith) (omega arith) (sym (high i h) ∙ e ∙ high j k) in omega arith)
    (cases_lt j (length xs)))
    (cases_lt i (length xs))

-- Two rows put together, either of them first

pub data Joined (xs ys : List ℕ) : List ℕ → Type 0 where
  ahead : Joined xs ys (xs ++ ys)
  behind : Joined xs ys (ys ++ xs)

pub joined_stands : {xs ys zs : List ℕ} {a : ℕ} → Joined xs ys zs → Stands xs a ⊎ Stands ys a → Stands zs a
joined_stands {xs} {ys} ahead s = ⊎_elim (stands_left xs ys) (stands_right xs ys) s
joined_stands {xs} {ys} behind s = ⊎_elim (stands_right ys xs) (stands_left ys xs) s

pub joined_either : {xs ys zs : List ℕ} {a : ℕ} → Joined xs ys zs → Stands zs a → Stands xs a ⊎ Stands ys a
joined_either {xs} {ys} ahead s = stands_either xs ys s
joined_either {xs} {ys} behind s = ⊎_elim inr inl (stands_either ys xs s)

pub joined_earlier : {xs ys zs : List ℕ} {a b : ℕ} → Joined xs ys zs → Earlier xs a b ⊎ Earlier ys a b → Earlier zs a b
joined_earlier {xs} {ys} ahead e = ⊎_elim (earlier_left xs ys) (earlier_right xs ys) e
joined_earlier {xs} {ys} behind e = ⊎_elim (earlier_right ys xs) (earlier_left ys xs) e

pub joined_length : {xs ys zs : List ℕ} → Joined xs ys zs → length zs ≡ length xs + length ys
joined_length {xs} {ys} ahead = length-append xs ys
joined_length {xs} {ys} behind = length-append ys xs ∙ add_comm _ _

pub joined_single : {xs ys zs : List ℕ} → Joined xs ys zs → Single xs → Single ys → ((a : ℕ) → Stands xs a → Stands ys a → ⊥) → Single zs
joined_single {xs} {ys} ahead one two apart = single_append xs ys one two apart
joined_single {xs} {ys} behind one two apart = single_append ys xs two one (λ a s t. apart a t s)

pub joined_apart : {xs ys zs : List ℕ} → Joined xs ys zs → Single zs → Single xs × Single ys × ((a : ℕ) → Stands xs a → Stands ys a → ⊥)
joined_apart {xs} {ys} ahead single = (single_left xs ys single, single_right xs ys single, single_apart xs ys single)
joined_apart {xs} {ys} behind single = (single_right ys xs single, single_left ys xs single, λ a s t. single_apart ys xs single a t s)

-- Rows of cells

module _ (n : ℕ) (row : List ℕ) (once : (i : ℕ) → Breaks n row i → ⊥) where
  pub once_low : (i : ℕ) → i < length row → get_or row i 0 < n
  once_low i h = ⊎_elim (λ (k : get_or row i 0 < n). k) (λ (k : n ≤ get_or row i 0). absurd (once i (h, inl k))) (cases_lt (get_or row i 0) n)

  pub once_single : Single row
  once_single i j p q e =
      ⊎_elim (λ (same : i ≡ j). same)
      (⊎_elim (λ (k : i < j). absurd (once j (q, inr (i, k, e)))) (λ (k : j < i). absurd (once i (p, inr (j, k, sym e)))))
      (cases_order i j)

  pub once_at_most : length row ≤ n
  once_at_most =
      length-le_from_distinct_below row n
      (IsDistinct-from_apart eqb row
      (λ i j d h k.
      ⊎_elim
      (λ t. absurd (let z = once_single i j (omega arith) k (get_or_default row i 0 d (omega arith) ∙ t.1 ∙ get_or_default row j d 0 k) in omega arith))
      (λ t. t.0)
      (eqb_tells (get_or row i d) (get_or row j d))))
      (λ a e. let s = (any_stands row a).0 e in let low = once_low s.0 s.1 in let is = s.2 in omega arith)

pub single_once : (n : ℕ) (row : List ℕ) → ((a : ℕ) → Stands row a → a < n) → Single row → (i : ℕ) → Breaks n row i → ⊥
single_once n row low single i b =
    ⊎_elim
    (λ (high : n ≤ get_or row i 0). let h = low (get_or row i 0) (i, b.0, refl) in omega arith)
    (λ r. let h : i < length row = b.0 in let k : r.0 < i = r.1 in let z = single r.0 i (omega arith) b.0 r.2 in omega arith)
    b.1

only_one : (k i : ℕ) {a : ℕ} → i < 1 → get_or (k ∷ []) i 0 ≡ a → a ≡ k
only_one k zero h e = sym e
only_one k (suc i) h e = absurd (omega arith)

pub stands_one : {k a : ℕ} → Stands (k ∷ []) a → a ≡ k
stands_one {k} s = only_one k s.0 s.1 s.2

pub one_stands : {k a : ℕ} → a ≡ k → Stands (k ∷ []) a
one_stands e = (0, omega arith, sym e)

-- one fresh cell more
pub once_push : (n : ℕ) (row : List ℕ) (k : ℕ) → ((i : ℕ) → Breaks n row i → ⊥) → k < n → (Stands row k → ⊥) → (i : ℕ) → Breaks n (row ++ k ∷ []) i → ⊥
once_push n row k once low fresh =
    single_once n (row ++ k ∷ [])
    (λ a s. ⊎_elim (λ t. let z = once_low n row once t.0 t.1 in let e = t.2 in omega arith) (λ t. let e = stands_one t in omega arith) (stands_either row (k ∷ []) s))
    (single_append row (k ∷ []) (once_single n row once) (λ i j p q _. omega arith) (λ a s t. fresh (s.0, s.1, s.2 ∙ stands_one t)))

module _ (n : ℕ) (row : List ℕ) (whole : Row n row) where
  pub row_single : Single row
  row_single = once_single n row whole.whole

  pub row_low : (a : ℕ) → Stands row a → a < n
  row_low a s = let h = once_low n row whole.whole s.0 s.1 in let e = s.2 in omega arith

  pub row_has : (a : ℕ) → a < n → Stands row a
  row_has a h = by_test (list_any (eqb a) row) (any_stands row a)
    where
      by_test : (b : Bool) → Decides b (Stands row a) → Stands row a
      by_test true d = d.0 refl
      by_test false d =
          let most = once_at_most n (row ++ a ∷ []) (once_push n row a whole.whole h (not_from_Decides false d refl)) in
          let pushed = length_push row a in
          let long = whole.long in
          absurd (omega arith)
