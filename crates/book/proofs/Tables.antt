-- Turning a row round, number by number: the table so far, and the number that breaks the row.
use Rattle.std.proofs.Common.{◌≡◌, ℕ, ◌+◌, ◌<◌, ◌≤◌, ◌≢◌, ◌⊎◌, Bool, true, false, List, length, get_or, set, replicate, Decides, sym, refl, ap, ◌∙◌, inl, inr, ⊎_elim, arith, length-set, get_or-set_other, get_or-set_same, below_more}
use Rattle.std.proofs.lemmas.List.{get_or-replicate}
use Rattle.std.proofs.lemmas.Bool.{cases_eq}
use Rattle.std.proofs.lemmas.Bool.Decides.{not_from_Decides}
use Rattle.book.specs.Order.{most_cells}
use Rattle.book.specs.Counts.{FirstWith}
use Rattle.book.specs.Rows.{Breaks}
use Rattle.book.specs.Sequence.{Inverse}

-- the table has the place of each number of the row before i, and it is marked which numbers came
pub record Table (n i : ℕ) (row places : List ℕ) (came : List Bool) : Type 0 where
  pub long : length places ≡ most_cells
  pub known : (j : ℕ) → j < i → (get_or row j 0 < n) × (get_or places (get_or row j 0) 0 ≡ j)
  pub marks : length came ≡ most_cells
  pub only : (c : ℕ) → c < most_cells → Decides (get_or came c false) ((j : ℕ) × (j < i) × (get_or row j 0 ≡ c))

pub table_none : (n : ℕ) (row : List ℕ) → Table n 0 row (replicate {A = ℕ} most_cells 0) (replicate {A = Bool} most_cells false)
table_none n row = record {
  long = refl;
  known = λ j h. absurd (omega arith);
  marks = refl;
  only = λ c h. (λ e. absurd (let z = get_or-replicate most_cells c false false h in cc), λ s. let k = s.1 in absurd (omega arith));
}

module _ (n i : ℕ) (row places : List ℕ) (came : List Bool) (few : n ≤ most_cells) (table : Table n i row places came) where
  abbrev here : ℕ
  here = get_or row i 0

  pub table_more : here < n → get_or came here false ≡ false → Table n (i + 1) row (set places here i) (set came here true)
  table_more low fresh =
      let long = table.long in
      let marks = table.marks in
      record {
        long = simp length-set long;
        known = below_more (λ j. (get_or row j 0 < n) × (get_or (set places here i) (get_or row j 0) 0 ≡ j)) i
            (λ j h.
            let k = table.known j h in
            let other : get_or row j 0 ≢ here = λ e. not_from_Decides _ (table.only here (omega arith)) fresh (j, h, e) in
            (k.0, get_or-set_other places here (get_or row j 0) i 0 other ∙ k.1))
            (low, get_or-set_same places here i 0 (omega arith));
        marks = simp length-set marks;
        only = λ c h.
            ⊎_elim
            (λ (e : c ≡ here). (λ _. (i, omega arith, sym e), λ _. ap (λ x. get_or (set came here true) x false) e ∙ get_or-set_same came here true false (omega arith)))
            (λ (ne : c ≡ here → ⊥).
            let now : get_or (set came here true) c false ≡ get_or came c false = get_or-set_other came here c true false ne in
            let was = table.only c h in (
              λ e. let s = was.0 (sym now ∙ e) in let k = s.1 in (s.0, omega arith, s.2),
              λ s.
                  let k = s.1 in
                  let off : s.0 ≢ i = λ e. ne (sym s.2 ∙ ap (λ j. get_or row j 0) e) in
                  now ∙ was.1 (s.0, omega arith, s.2),
            ))
            (cases_eq c here);
      }

-- none of the numbers that the table has breaks the row
pub none_breaks : (n i : ℕ) (row places : List ℕ) → ((j : ℕ) → j < i → (get_or row j 0 < n) × (get_or places (get_or row j 0) 0 ≡ j)) → (j : ℕ) → j < i → Breaks n row j → ⊥
none_breaks n i row places known j h b =
    ⊎_elim
    (λ high. let k = (known j h).0 in omega arith)
    (λ r.
    let k : r.0 < j = r.1 in
    let here = (known j h).1 in
    let there = (known r.0 (omega arith)).1 in
    let same : get_or places (get_or row r.0 0) 0 ≡ get_or places (get_or row j 0) 0 = ap (λ c. get_or places c 0) r.2 in
    omega arith)
    b.1

-- a number that is no cell, or that came already, is the first to break the row
pub first_break : (n i : ℕ) (row places : List ℕ) (came : List Bool) → n ≤ most_cells → i < length row → Table n i row places came → (n ≤ get_or row i 0) ⊎ ((get_or row i 0 < n) × (get_or came (get_or row i 0) false ≡ true)) → FirstWith (Breaks n row) i
first_break n i row places came few at table bad = record {
  here = (at, ⊎_elim inl (λ s. let low = s.0 in inr ((table.only (get_or row i 0) (omega arith)).0 s.1)) bad);
  before = none_breaks n i row places table.known;
}

pub table_whole : (n i : ℕ) (row places : List ℕ) (came : List Bool) → n ≤ i → Table n i row places came → Inverse n row places
table_whole n i row places came all table = record {
  long = table.long;
  cells = λ j h. (table.known j (omega arith)).0;
  back = λ j h. (table.known j (omega arith)).1;
}
