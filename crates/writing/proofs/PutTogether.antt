-- Numbers put into a file one after another are put there together; and how far they reach.
use Rattle.std.proofs.Common.{◌≡◌, ℕ, zero, suc, ◌+◌, ◌*◌, ◌^◌, ◌<◌, ◌≤◌, min, ◌⊎◌, List, [], ◌∷◌, ◌++◌, map, length, get_or, take, sym, refl, ap, ◌∙◌, subst, ⊎_elim, arith}
use Rattle.std.proofs.lemmas.List.{append_assoc, append-nil, length-append, length-take, length-map, take_more, take_all, map_more}
use Rattle.std.proofs.lemmas.Bool.{cases_lt}
use Rattle.numbers.specs.Number.{EachStorable, encode_all}
use Rattle.numbers.proofs.Standing.{put_append}
use Rattle.numbers.proofs.Encoded.{encode_all_append, encode_all_few}
use Rattle.formats.specs.declared.fields.Entry.{Entry}
use Rattle.formats.specs.Files.{JobFields, by_cell, entry_numbers, before_entries, job_numbers}
use Rattle.writing.specs.declared.pen.Pen.{Pen}
use Rattle.writing.specs.Calls.{Puts}

pub puts_none : (p : Pen) → Puts p [] p
puts_none p = record { same = refl; long = refl; next = omega arith; fits = λ h. refl }

pub puts_join : {p q r : Pen} {ms ns : List ℕ} → Puts p ms q → Puts q ns r → Puts p (ms ++ ns) r
puts_join {p} {q} {r} {ms} {ns} s t =
    let e = encode_all_append ms ns in
    let long : length (encode_all (ms ++ ns)) ≡ length (encode_all ms) + length (encode_all ns) = ap length e ∙ length-append (encode_all ms) (encode_all ns) in
    record {
      same = t.same ∙ s.same;
      long = t.long ∙ s.long;
      next = omega (arith, s.next, t.next);
      fits =
          λ h.
          let first = s.fits (omega arith) in
          let second = t.fits (omega (arith, s.next, s.long)) in
          let at = s.next in
          let whole = put_append p.out.now p.at (encode_all ms) (encode_all ns) in
          cc;
    }

-- the place behind the numbers
pub puts_place : {p q : Pen} {ns : List ℕ} → Puts p ns q → q.at ≤ p.at + 5 * length ns
puts_place {ns = ns} s = omega (arith, s.next, encode_all_few ns)

-- the same numbers
pub puts_same : {p q : Pen} {ms ns : List ℕ} → ms ≡ ns → Puts p ms q → Puts p ns q
puts_same {p} {q} e s = subst (λ (ns : List ℕ). Puts p ns q) e s

-- one number more of a list
pub puts_more : {p q r : Pen} (xs : List ℕ) (i : ℕ) → i < length xs → Puts p (take i xs) q → Puts q (get_or xs i 0 ∷ []) r → Puts p (take (i + 1) xs) r
puts_more xs i inside s t = puts_same (sym (take_more xs i 0 inside)) (puts_join s t)

pub storable_at : (xs : List ℕ) (i : ℕ) → EachStorable xs → i < length xs → get_or xs i 0 < 2 ^ 32
storable_at [] i s h = absurd (omega arith)
storable_at (x ∷ xs) zero s h = s.0
storable_at (x ∷ xs) (suc i) s h = storable_at xs i s.1 (omega arith)

-- one cell more
by_cell_push : (us vs : List (List ℕ)) (u v : List ℕ) → length us ≡ length vs → by_cell (us ++ (u ∷ [])) (vs ++ (v ∷ [])) ≡ by_cell us vs ++ (u ++ v)
by_cell_push [] [] u v e = simp append-nil
by_cell_push [] (y ∷ vs) u v e = absurd (omega arith)
by_cell_push (x ∷ us) [] u v e = absurd (omega arith)
by_cell_push (x ∷ us) (y ∷ vs) u v e = rw (by_cell_push us vs u v (omega arith)) (simp append_assoc)

module _ {V : Type 0} (numbers : V → List ℕ) where
  abbrev pub cells : List V → List V → ℕ → List ℕ
  cells xs ys i = by_cell (map numbers (take i xs)) (map numbers (take i ys))

  pub cells_more : (xs ys : List V) (i : ℕ) (x y : V) → i < length xs → i < length ys → x ≡ get_or xs i x → y ≡ get_or ys i y → cells xs ys i ++ (numbers x ++ numbers y) ≡ cells xs ys (i + 1)
  cells_more xs ys i x y h k e f =
      let same : length (map numbers (take i xs)) ≡ length (map numbers (take i ys)) = simp (length-map, length-take) (omega arith) in
      let us : map numbers (take (i + 1) xs) ≡ map numbers (take i xs) ++ (numbers x ∷ []) = map_more numbers xs i x h ∙ ap (λ (z : V). map numbers (take i xs) ++ (numbers z ∷ [])) (sym e) in
      let vs : map numbers (take (i + 1) ys) ≡ map numbers (take i ys) ++ (numbers y ∷ []) = map_more numbers ys i y k ∙ ap (λ (z : V). map numbers (take i ys) ++ (numbers z ∷ [])) (sym f) in
      let push = by_cell_push (map numbers (take i xs)) (map numbers (take i ys)) (numbers x) (numbers y) same in
      cc

  pub cells_all : (xs ys : List V) (i : ℕ) → min (length xs) (length ys) ≤ i → cells xs ys i ≡ by_cell (map numbers xs) (map numbers ys)
  cells_all [] ys zero h = refl
  cells_all (x ∷ xs) [] zero h = refl
  cells_all (x ∷ xs) (y ∷ ys) zero h = absurd (omega arith)
  cells_all [] ys (suc i) h = refl
  cells_all (x ∷ xs) [] (suc i) h = refl
  cells_all (x ∷ xs) (y ∷ ys) (suc i) h = ap (λ (ns : List ℕ). numbers x ++ (numbers y ++ ns)) (cells_all xs ys i (omega arith))

  -- a length has at most three numbers
  by_cell_few : ((x : V) → length (numbers x) ≤ 3) → (xs ys : List V) → length (by_cell (map numbers xs) (map numbers ys)) ≤ 6 * length xs
  by_cell_few few [] ys = omega arith
  by_cell_few few (x ∷ xs) [] = omega arith
  by_cell_few few (x ∷ xs) (y ∷ ys) = simp length-append (omega (arith, few x, few y, by_cell_few few xs ys))

  pub columns_place : {p q : Pen} → ((x : V) → length (numbers x) ≤ 3) → (xs ys : List V) → Puts p (by_cell (map numbers xs) (map numbers ys)) q → q.at ≤ p.at + 30 * length xs
  columns_place few xs ys s = omega (arith, puts_place s, by_cell_few few xs ys)

  pub cells_place : {p q : Pen} → ((x : V) → length (numbers x) ≤ 3) → (xs ys : List V) (i : ℕ) → Puts p (cells xs ys i) q → q.at ≤ p.at + 30 * i
  cells_place few xs ys i s = omega (arith, columns_place few (take i xs) (take i ys) s, length-take i xs)

-- a length takes one number or three
pub few_numbers : {k : ℕ} → (k ≡ 1) ⊎ (k ≡ 3) → k ≤ 3
few_numbers counted = ⊎_elim (λ e. omega arith) (λ e. omega arith) counted

pub few_listed : {V : Type 0} (numbers : V → List ℕ) {count : ℕ} → (count ≡ 1) ⊎ (count ≡ 3) → ((x : V) → length (numbers x) ≡ count) → (x : V) → length (numbers x) ≤ 3
few_listed numbers counted listed x = omega (arith, listed x, few_numbers counted)

-- one entry more
entries_push : (es : List Entry) (e : Entry) → entry_numbers (es ++ (e ∷ [])) ≡ entry_numbers es ++ (e.first ∷ e.second ∷ [])
entries_push [] e = refl
entries_push (d ∷ es) e = ap (λ (ns : List ℕ). d.first ∷ d.second ∷ ns) (entries_push es e)

pub entries_more : (es : List Entry) (i : ℕ) (d : Entry) → i < length es → entry_numbers (take i es) ++ ((get_or es i d).first ∷ (get_or es i d).second ∷ []) ≡ entry_numbers (take (i + 1) es)
entries_more es i d h = sym (ap entry_numbers (take_more es i d h) ∙ entries_push (take i es) (get_or es i d))

entries_double : (es : List Entry) → length (entry_numbers es) ≡ 2 * length es
entries_double [] = refl
entries_double (e ∷ es) = omega (arith, entries_double es)

pub entries_place : {p q : Pen} (es : List Entry) (i : ℕ) → Puts p (entry_numbers (take i es)) q → q.at ≤ p.at + 10 * i
entries_place es i s = omega (arith, puts_place s, entries_double (take i es), length-take i es)

pub entry_storable : (es : List Entry) (i : ℕ) (d : Entry) → EachStorable (entry_numbers es) → i < length es → ((get_or es i d).first < 2 ^ 32) × ((get_or es i d).second < 2 ^ 32)
entry_storable [] i d s h = absurd (omega arith)
entry_storable (e ∷ es) zero d s h = (s.0, s.1.0)
entry_storable (e ∷ es) (suc i) d s h = entry_storable es i d s.1.1 (omega arith)

pub storable_take : (es : List Entry) (i : ℕ) → EachStorable (entry_numbers es) → EachStorable (entry_numbers (take i es))
storable_take es zero s = tt
storable_take [] (suc i) s = tt
storable_take (e ∷ es) (suc i) s = (s.0, (s.1.0, storable_take es i s.1.1))

-- of a list no more can be taken than it has
pub take_min : {A : Type 0} (i n : ℕ) (xs : List A) → n ≡ length xs → take (min i n) xs ≡ take i xs
take_min i n xs e =
    ⊎_elim
    (λ h. let m : min i n ≡ i = omega arith in ap (λ (k : ℕ). take k xs) m)
    (λ h. take_all (min i n) xs (omega arith) ∙ sym (take_all i xs (omega arith)))
    (cases_lt i n)

pub all_entries : (j : JobFields) (n : ℕ) → n ≡ length j.entries → before_entries j ++ entry_numbers (take n j.entries) ≡ job_numbers j
all_entries j n e = ap (λ (es : List Entry). before_entries j ++ entry_numbers es) (take_all n j.entries (omega arith))
