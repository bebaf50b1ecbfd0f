-- An order that its check passes is refused by no book.
use Rattle.std.proofs.Common.{◌≡◌, ℕ, zero, suc, ◌-◌, ◌*◌, ◌<◌, Bool, true, List, [], ◌∷◌, ◌++◌, length, get_or, take, Ok, refl, ◌∙◌, inl, inr, arith}
use native.Mathlib.Numerals.{unary_clauses}
use Rattle.std.proofs.lemmas.List.{append_assoc, append-nil}
use Rattle.std.proofs.lemmas.Bool.Decides.{nat_tests}
use Rattle.refusal.specs.declared.fault.FieldFault.{FieldFault}
use Rattle.refusal.specs.declared.fault.SheetFault.{SheetFault}
use Rattle.book.specs.Counts.{Countable}
use Rattle.book.specs.Rows.{Breaks, NoRows, bad_count, first_length, second_length, first_breaks, second_breaks}
use Rattle.book.specs.Slicing as slicing
use Rattle.book.specs.Slicing.{Part, Read, waits, joins, stacks, Reads, none, more, Wrong, unknown, again, alone, NoExpression}
use Rattle.formats.specs.declared.fields.BookKind.TheVariants.{SequencePair, Slicing}
use Rattle.formats.specs.Rules.{is_cell_count, among, waiting, fits, fits_row, fits_expression}
use Rattle.formats.specs.Files.{rows, expression}
use Rattle.formats.specs.Writing.{list_check, unplaced, order_check}
use Rattle.formats.proofs.Scanning.{among_here, waiting_cell, waiting_join}
use Rattle.formats.proofs.Checks.{both_parts, passed}

countable : (n : ℕ) → is_cell_count n ≡ true → Countable n
countable n e = (grind (arith, nat_tests), grind (arith, nat_tests))

-- each number of a list that passes is lawful after those before it
module _ (rule : List ℕ → ℕ → Bool) (told : ℕ → FieldFault) where
  lawful_after : (before us : List ℕ) → list_check rule told before us ≡ Ok tt → (i : ℕ) → i < length us → rule (before ++ take i us) (get_or us i 0) ≡ true
  lawful_after before [] e i h = absurd (omega arith)
  lawful_after before (u ∷ us) e zero h = rw append-nil (passed (rule before u) _ (both_parts _ _ e).0)
  lawful_after before (u ∷ us) e (suc i) h = rw append_assoc at (lawful_after (before ++ (u ∷ [])) us (both_parts _ _ e).1 i (omega arith))

-- a number that stands at an earlier place too is among those before it
among_earlier : (v i j : ℕ) (us : List ℕ) → j < i → i < length us → get_or us j 0 ≡ v → among v (take i us) ≡ true
among_earlier v i j [] h b e = absurd (omega arith)
among_earlier v zero j (u ∷ us) h b e = absurd (omega arith)
among_earlier v (suc i) zero (u ∷ us) h b e = among_here v u (take i us) e
among_earlier v (suc i) (suc j) (u ∷ us) h b e = let r = among_earlier v i j us (omega arith) (omega arith) e in grind (arith, nat_tests)

never_breaks : (n : ℕ) (row : List ℕ) (i : ℕ) → fits_row n (take i row) (get_or row i 0) ≡ true → Breaks n row i → ⊥
never_breaks n row i r (h, inl w) = grind (arith, nat_tests)
never_breaks n row i r (h, inr (j, b, e)) = let a = among_earlier (get_or row i 0) i j row b h e in grind (arith, nat_tests)

row_whole : (n l : ℕ) (row : List ℕ) → list_check (fits SequencePair n) (unplaced l) [] row ≡ Ok tt → (i : ℕ) → Breaks n row i → ⊥
row_whole n l row e i b = never_breaks n row i (lawful_after (fits SequencePair n) (unplaced l) [] row e i b.0) b

pub rows_never_refused : (n : ℕ) (first second : List ℕ) (f : SheetFault) → is_cell_count n ≡ true → length first ≡ n → length second ≡ n
    → order_check n (rows first second) ≡ Ok tt → NoRows n first second f → ⊥
rows_never_refused n first second f c p q e (bad_count k) = k (countable n c)
rows_never_refused n first second f c p q e (first_length _ k) = k p
rows_never_refused n first second f c p q e (second_length _ _ k) = k q
rows_never_refused n first second f c p q e (first_breaks {i} _ _ _ w) = row_whole n 1 first (both_parts _ _ e).0 i w.here
rows_never_refused n first second f c p q e (second_breaks {i} _ _ _ w) = row_whole n 2 second (both_parts _ _ e).1 i w.here

-- reading a number changes how many parts wait as the rule counts them
waiting_read : {n k : ℕ} (ks : List ℕ) {ps qs : List Part} → Read n k ps qs → waiting n (length ps) (k ∷ ks) ≡ waiting n (length qs) ks
waiting_read {n} {k} ks {ps} (waits h) = waiting_cell n (length ps) k ks h ∙ simp unary_clauses
waiting_read {n} {k} ks {ps} (joins e) = waiting_join n (length ps) k ks (omega arith) ∙ simp unary_clauses
waiting_read {n} {k} ks {ps} (stacks e) = waiting_join n (length ps) k ks (omega arith) ∙ simp unary_clauses

waiting_reads : {n : ℕ} {ks : List ℕ} {ps qs : List Part} → Reads n ks ps qs → waiting n (length ps) ks ≡ length qs
waiting_reads none = refl
waiting_reads (more {ks} r rs) = waiting_read ks r ∙ waiting_reads rs

never_wrong : (n : ℕ) (list : List ℕ) (i : ℕ) → i < length list → fits_expression n (take i list) (get_or list i 0) ≡ true → Wrong n list i → ⊥
never_wrong n list i h r (unknown w) = grind (arith, nat_tests)
never_wrong n list i h r (again w j b e) = let a = among_earlier (get_or list i 0) i j list b h e in grind (arith, nat_tests)
never_wrong n list i h r (alone w _ ps rs short) = let a = waiting_reads rs in grind (arith, nat_tests)

pub expression_never_refused_lem : (n : ℕ) (list : List ℕ) (f : SheetFault) → is_cell_count n ≡ true → length list ≡ 2 * n - 1
    → order_check n (expression list) ≡ Ok tt → NoExpression n list f → ⊥
expression_never_refused_lem n list f c p e (slicing.bad_count k) = k (countable n c)
expression_never_refused_lem n list f c p e (slicing.wrong_length d k) = k (omega (arith, d.0))
expression_never_refused_lem n list f c p e (slicing.breaks {i} _ _ w) =
    never_wrong n list i w.here.0 (lawful_after (fits Slicing n) (unplaced 1) [] list e i w.here.0) w.here.1
