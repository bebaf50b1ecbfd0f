-- Two lengths of each cell, cell by cell, are read exactly.
use Rattle.std.proofs.Common.{◌≡◌, ℕ, zero, suc, Bool, true, List, [], ◌∷◌, ◌++◌, length, Ok, sym, refl, ap, ◌∙◌, subst, ap₂, arith}
use Rattle.std.proofs.lemmas.List.{append_assoc, append-nil}
use Rattle.std.proofs.lemmas.Bool.{and_parts, and_from}
use Rattle.refusal.specs.declared.fault.FieldFault.{FieldFault}
use Rattle.refusal.specs.declared.fault.FieldFault.TheVariants as fault
use Rattle.refusal.specs.declared.fault.SheetFault.TheVariants as sheet
use Rattle.refusal.specs.declared.fault.Side.{Side}
use Rattle.refusal.specs.declared.fault.Side.TheVariants.{Width, Height}
use Rattle.formats.specs.Files.{by_cell}
use Rattle.formats.specs.Reading.{one_length, Columns, one_more, no_columns, columns}
use Rattle.formats.specs.Writing.{pass_field, list_check, all}
use Rattle.numbers.specs.Number.{EachStorable}
use Rattle.formats.proofs.Checks.{both_parts, both_from, passed, pass_from}
use Rattle.roundtrip.proofs.Exact.{Exact, Of, Then, exact_like, exact_good, exact_then, exact_ok}
use Rattle.roundtrip.proofs.Lists.{exact_list}

-- a length of k lawful numbers
abbrev pub Row : (ℕ → Bool) → ℕ → List ℕ → Type 0
Row lawful k u = (length u ≡ k) × (all lawful u ≡ true) × EachStorable u

-- as many first as second lengths
abbrev pub Rows : (ℕ → Bool) → ℕ → List (List ℕ) → List (List ℕ) → Type 0
Rows lawful k [] [] = Unit {0}
Rows lawful k [] (v ∷ vs) = ⊥
Rows lawful k (u ∷ us) [] = ⊥
Rows lawful k (u ∷ us) (v ∷ vs) = Row lawful k u × Row lawful k v × Rows lawful k us vs

module _ (lawful : ℕ → Bool) (blame : ℕ → FieldFault) where
  all_of : (before us : List ℕ) → list_check (λ _ v. lawful v) blame before us ≡ Ok tt → all lawful us ≡ true
  all_of before [] e = refl
  all_of before (u ∷ us) e =
      let b = both_parts (pass_field (lawful u) (blame (length before))) (list_check (λ _ v. lawful v) blame (before ++ (u ∷ [])) us) e in
      and_from (lawful u) (all lawful us) (passed (lawful u) _ b.0) (all_of (before ++ (u ∷ [])) us b.1)

  of_all : (before us : List ℕ) → all lawful us ≡ true → list_check (λ _ v. lawful v) blame before us ≡ Ok tt
  of_all before [] e = refl
  of_all before (u ∷ us) e =
      let b = and_parts (lawful u) (all lawful us) e in
      both_from (pass_from (sheet.Field (blame (length before))) b.0) (of_all (before ++ (u ∷ [])) us b.1)

module _ (lawful : ℕ → Bool) (k : ℕ) (file : List ℕ) where
  pub exact_length : (cell : ℕ) (side : Side) → Exact file (one_length lawful k cell side file) (Of (Row lawful k) (λ u. u))
  exact_length cell side =
      let blame : ℕ → FieldFault = λ _. fault.NotASize 0 cell side in
      exact_good (λ u w. (w.0, all_of lawful blame [] u w.1, w.2)) (λ u w. (w.0, of_all lawful blame [] u w.1, w.2))
      (exact_list (λ _ v. lawful v) (λ _ at. fault.NotASize at cell side) blame file k)

  abbrev longer : Columns → List (List ℕ) → List (List ℕ) → Columns
  longer c us vs = record { firsts = c.firsts ++ us; seconds = c.seconds ++ vs }

  -- d are the columns c with m cells more, which are spelled by ns
  record Grown (m : ℕ) (c d : Columns) (ns : List ℕ) : Type 0 where
    pub firsts : List (List ℕ)
    pub seconds : List (List ℕ)
    pub is : d ≡ longer c firsts seconds
    pub count : length firsts ≡ m
    pub rows : Rows lawful k firsts seconds
    pub numbers : ns ≡ by_cell firsts seconds

  abbrev More : ℕ → Columns → Columns → List ℕ → Type 0
  More m c = Then (Of (Row lawful k) (λ u. u)) (λ u. Then (Of (Row lawful k) (λ u. u)) (λ v. Grown m (one_more c u v)))

  longer_none : (c : Columns) → c ≡ longer c [] []
  longer_none c i = record { firsts = sym (append-nil c.firsts) i; seconds = sym (append-nil c.seconds) i }

  longer_more : (c : Columns) (u v : List ℕ) (us vs : List (List ℕ)) → longer (one_more c u v) us vs ≡ longer c (u ∷ us) (v ∷ vs)
  longer_more c u v us vs i = record { firsts = append_assoc c.firsts (u ∷ []) us i; seconds = append_assoc c.seconds (v ∷ []) vs i }

  more_there : (m : ℕ) (c d : Columns) (ns : List ℕ) → More m c d ns → Grown (suc m) c d ns
  more_there m c d ns w =
      let x = w.next in
      let g = x.next in
      record {
        firsts = w.value ∷ g.firsts;
        seconds = x.value ∷ g.seconds;
        is = g.is ∙ longer_more c w.value x.value g.firsts g.seconds;
        count = ap suc g.count;
        rows = (w.first.0, x.first.0, g.rows);
        numbers = w.joined ∙ ap₂ ◌++◌ w.first.1 (x.joined ∙ ap₂ ◌++◌ x.first.1 g.numbers);
      }

  more_here : (m : ℕ) (c d : Columns) (ns : List ℕ) (us vs : List (List ℕ)) → d ≡ longer c us vs → length us ≡ suc m → Rows lawful k us vs → ns ≡ by_cell us vs → More m c d ns
  more_here m c d ns [] vs e n r b = absurd (omega arith)
  more_here m c d ns (u ∷ us) [] e n r b = absurd r
  more_here m c d ns (u ∷ us) (v ∷ vs) e n r b = record {
    value = u;
    front = u;
    rest = v ++ by_cell us vs;
    first = (r.0, refl);
    next = record {
      value = v;
      front = v;
      rest = by_cell us vs;
      first = (r.1, refl);
      next = record { firsts = us; seconds = vs; is = e ∙ sym (longer_more c u v us vs); count = omega arith; rows = r.2; numbers = refl };
      joined = refl;
    };
    joined = b;
  }

  none_here : (c d : Columns) (ns : List ℕ) (us vs : List (List ℕ)) → d ≡ longer c us vs → length us ≡ 0 → Rows lawful k us vs → ns ≡ by_cell us vs → Of (λ d. d ≡ c) (λ _. []) d ns
  none_here c d ns [] [] e n r b = (e ∙ sym (longer_none c), b)
  none_here c d ns [] (v ∷ vs) e n r b = absurd r
  none_here c d ns (u ∷ us) vs e n r b = absurd (omega arith)

  grown : (m : ℕ) (c : Columns) → Exact file (columns lawful k m c file) (Grown m c)
  grown zero c =
      exact_like
      (λ d ns w. record { firsts = []; seconds = []; is = w.0 ∙ longer_none c; count = refl; rows = tt; numbers = w.1 })
      (λ d ns w. none_here c d ns w.firsts w.seconds w.is w.count w.rows w.numbers)
      (exact_ok c)
  grown (suc m) c =
      exact_like (more_there m c)
      (λ d ns w. more_here m c d ns w.firsts w.seconds w.is w.count w.rows w.numbers)
      (exact_then (exact_length (length c.firsts) Width) (λ p u. exact_then (exact_length (length c.firsts) Height) (λ q v. grown m (one_more c u v))))

  abbrev Good : ℕ → Columns → Type 0
  Good m c = (length c.firsts ≡ m) × Rows lawful k c.firsts c.seconds

  abbrev spelled : Columns → List ℕ
  spelled c = by_cell c.firsts c.seconds

  pub exact_columns : (m : ℕ) → Exact file (columns lawful k m no_columns file) (Of (Good m) spelled)
  exact_columns m =
      exact_like
      (λ d ns w. subst (λ c. Of (Good m) spelled c ns) (sym w.is) ((w.count, w.rows), w.numbers))
      (λ d ns w. record { firsts = d.firsts; seconds = d.seconds; is = refl; count = w.0.0; rows = w.0.1; numbers = w.1 })
      (grown m no_columns)
