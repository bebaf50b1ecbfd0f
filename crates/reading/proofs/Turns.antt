-- One turn of a loop that reads: what is left to read makes the whole.
use Rattle.std.proofs.Common.{◌≡◌, ℕ, suc, ◌+◌, ◌-◌, ◌<◌, Bool, List, [], ◌∷◌, ◌++◌, map, length, Ok, Err, sym, ap, ◌∙◌, subst, arith, length-append}
use Rattle.std.proofs.lemmas.List.{map-append}
use Rattle.refusal.specs.declared.fault.FieldFault.{FieldFault}
use Rattle.refusal.specs.declared.fault.Side.{Side}
use Rattle.refusal.specs.declared.fault.Side.TheVariants.{Width, Height}
use Rattle.formats.specs.declared.fields.Entry.{Entry}
use Rattle.formats.specs.Reading.{Reading, and_then, field, list, entry, entries, one_length, columns, Columns, one_more}

pub one_left : (size i : ℕ) → i < size → size - i ≡ suc (size - (i + 1))
one_left size i h = omega arith

pub then_ok : {A B : Type 0} (r : Reading A) (go : A → ℕ → Reading B) (a : A) (q : ℕ) → r ≡ Ok (a, q) → and_then r go ≡ go a q
then_ok {A} {B} r go a q e = ap (λ (x : Reading A). and_then x go) e

pub then_err : {A B : Type 0} (r : Reading A) (go : A → ℕ → Reading B) (f : FieldFault) → r ≡ Err f → and_then r go ≡ Err f
then_err {A} {B} r go f e = ap (λ (x : Reading A). and_then x go) e

module _ (rule : List ℕ → ℕ → Bool) (told : ℕ → ℕ → FieldFault) (size i : ℕ) (before file : List ℕ) (p : ℕ) where
  abbrev here : Reading ℕ
  here = field (rule before) (λ at _. told (length before) at) file p

  pub list_more : (v q : ℕ) → i < size → here ≡ Ok (v, q) → list rule told (size - i) before file p ≡ list rule told (size - (i + 1)) (before ++ (v ∷ [])) file q
  list_more v q h e =
      ap (λ (k : ℕ). list rule told k before file p) (one_left size i h)
      ∙ then_ok here (λ w r. list rule told (size - (i + 1)) (before ++ (w ∷ [])) file r) v q e

  pub list_fails : (f : FieldFault) → i < size → here ≡ Err f → list rule told (size - i) before file p ≡ Err f
  list_fails f h e =
      ap (λ (k : ℕ). list rule told k before file p) (one_left size i h)
      ∙ then_err here (λ w r. list rule told (size - (i + 1)) (before ++ (w ∷ [])) file r) f e

module _ (n size i : ℕ) (before : List Entry) (file : List ℕ) (p : ℕ) where
  pub entries_more : (e : Entry) (q : ℕ) → i < size → entry n before file p ≡ Ok (e, q) → entries n (size - i) before file p ≡ entries n (size - (i + 1)) (before ++ (e ∷ [])) file q
  entries_more e q h is =
      ap (λ (k : ℕ). entries n k before file p) (one_left size i h)
      ∙ then_ok (entry n before file p) (λ w r. entries n (size - (i + 1)) (before ++ (w ∷ [])) file r) e q is

  pub entries_fail : (f : FieldFault) → i < size → entry n before file p ≡ Err f → entries n (size - i) before file p ≡ Err f
  entries_fail f h is =
      ap (λ (k : ℕ). entries n k before file p) (one_left size i h)
      ∙ then_err (entry n before file p) (λ w r. entries n (size - (i + 1)) (before ++ (w ∷ [])) file r) f is

-- what a part of the file read as, said of an equal list before it and of the file itself
pub re_read : {A B : Type 0} (read : B → List ℕ → A) {before before' : B} {file file' : List ℕ} {r : A} → before ≡ before' → file ≡ file' → read before file ≡ r → read before' file' ≡ r
re_read {A} {B} read {before} {before'} {file} {file'} {r} b s is =
    subst (λ (x : List ℕ). read before' x ≡ r) s (subst (λ (y : B). read y file ≡ r) b is)

-- the numbers of a list of lengths that grew by one
pub one_pushed : {V : Type 0} (numbers : V → List ℕ) (xs : List V) (x : V) (ys : List V) → ys ≡ xs ++ (x ∷ []) → map numbers ys ≡ map numbers xs ++ (numbers x ∷ [])
one_pushed numbers xs x ys e = ap (map numbers) e ∙ map-append numbers xs (x ∷ [])

pub one_longer : (us : List (List ℕ)) (u : List ℕ) (cell : ℕ) → length us ≡ cell → length (us ++ (u ∷ [])) ≡ cell + 1
one_longer us u cell e = simp length-append (omega arith)

abbrev pub both_columns : List (List ℕ) → List (List ℕ) → Columns
both_columns us vs = record { firsts = us; seconds = vs }

module _ (lawful : ℕ → Bool) (k size cell : ℕ) (us vs : List (List ℕ)) (file : List ℕ) (p : ℕ) (at : length us ≡ cell) where
  abbrev now_read : Columns
  now_read = both_columns us vs

  abbrev width : Reading (List ℕ)
  width = one_length lawful k (length us) Width file p

  abbrev height : ℕ → Reading (List ℕ)
  height q = one_length lawful k (length us) Height file q

  abbrev later : List ℕ → List ℕ → ℕ → Reading Columns
  later u v r = columns lawful k (size - (cell + 1)) (one_more now_read u v) file r

  one_cell : cell < size → columns lawful k (size - cell) now_read file p ≡ and_then width (λ u q. and_then (height q) (λ v r. later u v r))
  one_cell h = ap (λ (m : ℕ). columns lawful k m now_read file p) (one_left size cell h)

  -- a length told by its cell's number is told by how many come before it
  by_cell : (side : Side) (q : ℕ) → one_length lawful k cell side file q ≡ one_length lawful k (length us) side file q
  by_cell side q = ap (λ (c : ℕ). one_length lawful k c side file q) (sym at)

  pub first_fails : (f : FieldFault) → cell < size → one_length lawful k cell Width file p ≡ Err f → columns lawful k (size - cell) now_read file p ≡ Err f
  first_fails f h e = one_cell h ∙ then_err width (λ u q. and_then (height q) (λ v r. later u v r)) f (sym (by_cell Width p) ∙ e)

  module _ (u : List ℕ) (q : ℕ) (h : cell < size) (e : one_length lawful k cell Width file p ≡ Ok (u, q)) where
    after_first : columns lawful k (size - cell) now_read file p ≡ and_then (height q) (λ v r. later u v r)
    after_first = one_cell h ∙ then_ok width (λ w i. and_then (height i) (λ v r. later w v r)) u q (sym (by_cell Width p) ∙ e)

    pub second_fails : (f : FieldFault) → one_length lawful k cell Height file q ≡ Err f → columns lawful k (size - cell) now_read file p ≡ Err f
    second_fails f d = after_first ∙ then_err (height q) (λ v r. later u v r) f (sym (by_cell Height q) ∙ d)

    pub columns_more : (v : List ℕ) (r : ℕ) → one_length lawful k cell Height file q ≡ Ok (v, r) → columns lawful k (size - cell) now_read file p ≡ columns lawful k (size - (cell + 1)) (both_columns (us ++ (u ∷ [])) (vs ++ (v ∷ []))) file r
    columns_more v r d = after_first ∙ then_ok (height q) (λ w i. later u w i) v r (sym (by_cell Height q) ∙ d)
