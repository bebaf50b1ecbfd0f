-- The order that the lists of a sheet mean, where they mean one.
use Rattle.std.proofs.Common.{◌≡◌, ℕ, suc, ◌+◌, ◌<◌, Bool, true, false, ◌&&◌, eqb, ltb, List, [], ◌∷◌, length, get_or, set, replicate, Some, None, Option, refl}
use Rattle.std.proofs.lemmas.Bool.{ltb-true, eqb-true, and_parts}
use Rattle.book.specs.Order.{Order, most_cells}
use Rattle.book.specs.Rows.{Rows}
use Rattle.book.specs.Places.{by_places}
use Rattle.book.specs.Sequence.{Inverse}
use Rattle.book.specs.Slicing.{Part, cell, beside, stacked, leaves, Read, waits, joins, stacks, Reads, none, more, Expression}
use Rattle.book.specs.Waiting.{upper}
use Rattle.book.proofs.Inverses.{inverse_row, told_by_places}
use Rattle.book.proofs.Trees.{told_tells}
use Rattle.formats.specs.Files.{OrderFields, rows, expression}
use Rattle.jobs.specs.Steps.{Means}
use Rattle.worked.proofs.Tests.{Test, so, both, less, equal, every}

-- the place of each cell of a row that begins at place i
abbrev pub places : ℕ → List ℕ → List ℕ
places i [] = replicate most_cells most_cells
places i (c ∷ cs) = set (places (suc i) cs) c i

abbrev pub rows_order : ℕ → List ℕ → List ℕ → Order
rows_order n first second = record { count = n; rel = by_places (places 0 first) (places 0 second) }

abbrev pub row? : (n : ℕ) (row : List ℕ) → Test ((length row ≡ n) × ((length (places 0 row) ≡ most_cells) × ((j : ℕ) → j < n → (get_or row j 0 < n) × (get_or (places 0 row) (get_or row j 0) 0 ≡ j))))
row? n row =
    both (equal (length row) n)
    (both (equal (length (places 0 row)) most_cells)
    (every n (λ j. both (less (get_or row j 0) n) (equal (get_or (places 0 row) (get_or row j 0) 0) j))))

abbrev pub both_rows : ℕ → List ℕ → List ℕ → Bool
both_rows n first second = (row? n first).holds && (row? n second).holds

module _ (n : ℕ) (row : List ℕ) (e : (row? n row).holds ≡ true) where
  long : length row ≡ n
  long = (so (row? n row) e).0

  inverse : Inverse n row (places 0 row)
  inverse = let h = (so (row? n row) e).1 in record { long = h.0; cells = λ j k. (h.1 j k).0; back = λ j k. (h.1 j k).1 }

pub rows_mean : (n : ℕ) (first second : List ℕ) → both_rows n first second ≡ true → Rows n first second (rows_order n first second)
rows_mean n first second e =
    let (p, q) = and_parts (row? n first).holds (row? n second).holds e in
    record {
      count = refl;
      first_row = inverse_row n first (places 0 first) (long n first p) (inverse n first p);
      second_row = inverse_row n second (places 0 second) (long n second q) (inverse n second q);
      each = λ a b d. told_by_places n first second (places 0 first) (places 0 second) (long n first p) (long n second q) (inverse n first p) (inverse n second q) a b d.a_in d.b_in d.differ;
    }

-- Reading an expression

abbrev Step : ℕ → ℕ → List Part → Type 0
Step n k ps = Option ((qs : List Part) × Read n k ps qs)

abbrev joined : (n k : ℕ) → k ≡ n → (ps : List Part) → Step n k ps
joined n k e [] = None
joined n k e (q ∷ []) = None
joined n k e (q ∷ (p ∷ ps)) = Some (beside p q ∷ ps, joins e)

abbrev piled : (n k : ℕ) → k ≡ n + 1 → (ps : List Part) → Step n k ps
piled n k e [] = None
piled n k e (q ∷ []) = None
piled n k e (q ∷ (p ∷ ps)) = Some (stacked p q ∷ ps, stacks e)

abbrev step : (n k : ℕ) (ps : List Part) (is_cell is_join is_pile : Bool) → (is_cell ≡ true → k < n) → (is_join ≡ true → k ≡ n) → (is_pile ≡ true → k ≡ n + 1) → Step n k ps
step n k ps true join pile c j p = Some (cell k ∷ ps, waits (c refl))
step n k ps false true pile c j p = joined n k (j refl) ps
step n k ps false false true c j p = piled n k (p refl) ps
step n k ps false false false c j p = None

abbrev chained : {A B : Type 0} → Option A → (A → Option B) → Option B
chained None f = None
chained (Some a) f = f a

abbrev pub reads : (n : ℕ) (ks : List ℕ) (ps : List Part) → Option ((qs : List Part) × Reads n ks ps qs)
reads n [] ps = Some (ps, none)
reads n (k ∷ ks) ps =
    chained (step n k ps (ltb k n) (eqb k n) (eqb k (n + 1)) (ltb-true k n) (eqb-true k n) (eqb-true k (n + 1)))
    (λ r. chained (reads n ks r.0) (λ rest. Some (rest.0, more r.1 rest.1)))

-- The order

abbrev pub Found : ℕ → OrderFields → Type 0
Found n f = Option ((o : Order) × Means n f o)

abbrev where_so : {A : Type 0} (b : Bool) → (b ≡ true → A) → Option A
where_so true f = Some (f refl)
where_so false f = None

pub part_means : (n : ℕ) (list : List ℕ) (part : Part) → Reads n list [] (part ∷ []) → both_rows n (upper part) (leaves part) ≡ true → Expression n list (rows_order n (upper part) (leaves part))
part_means n list part r e =
    let both = rows_mean n (upper part) (leaves part) e in
    record {
      count = refl;
      part = part;
      read = r;
      cells = both.second_row;
      each = told_tells n part (rows_order n (upper part) (leaves part)) both.second_row both;
    }

abbrev of_parts : (n : ℕ) (list : List ℕ) (ps : List Part) → Reads n list [] ps → Found n (expression list)
of_parts n list [] r = None
of_parts n list (p ∷ []) r = where_so (both_rows n (upper p) (leaves p)) (λ e. (rows_order n (upper p) (leaves p), part_means n list p r e))
of_parts n list (p ∷ (q ∷ ps)) r = None

abbrev pub found : (n : ℕ) (f : OrderFields) → Found n f
found n (rows first second) = where_so (both_rows n first second) (λ e. (rows_order n first second, rows_mean n first second e))
found n (expression list) = chained (reads n list []) (λ r. of_parts n list r.0 r.1)
