-- Reading an expression number by number: what waits so far, the number that breaks it, and what is left at the end.
use Rattle.std.proofs.Common.{◌≡◌, ℕ, zero, suc, ◌+◌, ◌*◌, ◌<◌, ◌≤◌, cond, ltb, List, [], ◌∷◌, ◌++◌, length, get_or, take, sym, refl, ap, ◌∙◌, subst, inl, inr, ⊎_elim, append_assoc, append-nil, arith, length-take, below_more}
use Rattle.std.proofs.lemmas.List.{length_push, get_or-take, take_more, take_all}
use Rattle.std.proofs.lemmas.Bool.{cases_lt, lt-ltb, le-ltb}
use Rattle.book.specs.declared.slicing.Waiting.{Waiting}
use Rattle.refusal.specs.declared.fault.SheetFault.{SheetFault}
use Rattle.book.specs.Order.{Order, Laws}
use Rattle.book.specs.Counts.{Countable, FirstWith}
use Rattle.book.specs.Slicing.{Part, leaves, Read, waits, joins, stacks, Reads, none, more, Breaks, Wrong, unknown, again, alone, Expression, NoExpression, bad_count, wrong_length, breaks}
use Rattle.book.specs.Waiting.{in_row, Holds, Once, Unread, Whole}
use Rattle.book.specs.Waiting as waiting
use Rattle.book.proofs.Standing.{Stands, Single, joined_stands, joined_either, joined_apart, ahead, one_stands, single_left, once_low, once_single, once_at_most, row_single}

-- Reading is unambiguous

read_one : {n k : ℕ} {ps qs rs : List Part} → Read n k ps qs → Read n k ps rs → qs ≡ rs
read_one (waits h) (waits k) = refl
read_one (waits h) (joins k) = absurd (omega arith)
read_one (waits h) (stacks k) = absurd (omega arith)
read_one (joins h) (waits k) = absurd (omega arith)
read_one (joins h) (joins k) = refl
read_one (joins h) (stacks k) = absurd (omega arith)
read_one (stacks h) (waits k) = absurd (omega arith)
read_one (stacks h) (joins k) = absurd (omega arith)
read_one (stacks h) (stacks k) = refl

pub reads_one : {n : ℕ} {ks : List ℕ} {ps qs rs : List Part} → Reads n ks ps qs → Reads n ks ps rs → qs ≡ rs
reads_one none none = refl
reads_one {n} {rs = rs} (more {ks = ks} h t) (more k u) = reads_one t (subst (λ xs. Reads n ks xs rs) (sym (read_one h k)) u)

reads_push : {n k : ℕ} {ks : List ℕ} {ps qs rs : List Part} → Reads n ks ps qs → Read n k qs rs → Reads n (ks ++ k ∷ []) ps rs
reads_push none r = more r none
reads_push (more h t) r = more h (reads_push t r)

-- what one number does to the cells in order and to the number of parts
data Step (n k : ℕ) (ps qs : List Part) : Type 0 where
  grown : k < n → in_row leaves qs ≡ in_row leaves ps ++ k ∷ [] → length qs ≡ length ps + 1 → Step n k ps qs
  merged : n ≤ k → k ≤ n + 1 → in_row leaves qs ≡ in_row leaves ps → length qs + 1 ≡ length ps → 2 ≤ length ps → Step n k ps qs

step_of : {n k : ℕ} {ps qs : List Part} → Read n k ps qs → Step n k ps qs
step_of (waits h) = grown h refl (omega arith)
step_of (joins {p} {q} {ps} h) = merged (omega arith) (omega arith) (sym (append_assoc (in_row leaves ps) (leaves p) (leaves q))) (omega arith) (omega arith)
step_of (stacks {p} {q} {ps} h) = merged (omega arith) (omega arith) (sym (append_assoc (in_row leaves ps) (leaves p) (leaves q))) (omega arith) (omega arith)

-- Numbers in a row

-- the cells among the numbers, in their order
abbrev cells : ℕ → List ℕ → List ℕ
cells n [] = []
cells n (k ∷ ks) = cond (ltb k n) (k ∷ cells n ks) (cells n ks)

cells_low : {n k : ℕ} (ks : List ℕ) → k < n → cells n (k ∷ ks) ≡ k ∷ cells n ks
cells_low {n} {k} ks low = simp (lt-ltb k n low)

cells_high : {n k : ℕ} (ks : List ℕ) → n ≤ k → cells n (k ∷ ks) ≡ cells n ks
cells_high {n} {k} ks high = simp (le-ltb k n high)

cells_came : (n : ℕ) (ks : List ℕ) (j : ℕ) → j < length ks → get_or ks j 0 < n → Stands (cells n ks) (get_or ks j 0)
cells_came n [] j h low = absurd (omega arith)
cells_came n (k ∷ ks) zero h low = subst (λ r. Stands r k) (sym (cells_low ks low)) (0, omega arith, refl)
cells_came n (k ∷ ks) (suc j) h low =
    let later = cells_came n ks j (omega arith) low in
    let P : List ℕ → Type 0 = λ r. Stands r (get_or ks j 0) in
    ⊎_elim
    (λ (l : k < n). subst P (sym (cells_low ks l)) (joined_stands {xs = k ∷ []} {ys = cells n ks} ahead (inr later)))
    (λ (g : n ≤ k). subst P (sym (cells_high ks g)) later)
    (cases_lt k n)

cells_only : (n : ℕ) (ks : List ℕ) {a : ℕ} → Stands (cells n ks) a → Stands ks a
cells_only n [] s = s
cells_only n (k ∷ ks) {a} s =
    let P : List ℕ → Type 0 = λ r. Stands r a in
    let later : Stands (cells n ks) a → Stands (k ∷ ks) a = λ t. joined_stands {xs = k ∷ []} {ys = ks} ahead (inr (cells_only n ks t)) in
    ⊎_elim
    (λ (l : k < n). ⊎_elim (λ t. joined_stands {xs = k ∷ []} {ys = ks} ahead (inl t)) later (joined_either {xs = k ∷ []} {ys = cells n ks} ahead (subst P (cells_low ks l) s)))
    (λ (g : n ≤ k). later (subst P (cells_high ks g) s))
    (cases_lt k n)

row_more : {n k : ℕ} {ps qs : List Part} (ks : List ℕ) → Step n k ps qs → in_row leaves qs ++ cells n ks ≡ in_row leaves ps ++ cells n (k ∷ ks)
row_more {n} {k} {ps} ks (grown low row long) = ap (λ r. r ++ cells n ks) row ∙ append_assoc (in_row leaves ps) (k ∷ []) (cells n ks) ∙ ap (λ r. in_row leaves ps ++ r) (sym (cells_low ks low))
row_more {n} {k} {ps} ks (merged high top row long two) = ap (λ r. r ++ cells n ks) row ∙ ap (λ r. in_row leaves ps ++ r) (sym (cells_high ks high))

-- the parts have the cells that were read, in their order
reads_row : {n : ℕ} {ks : List ℕ} {ps qs : List Part} → Reads n ks ps qs → in_row leaves qs ≡ in_row leaves ps ++ cells n ks
reads_row {ps = ps} none = sym (append-nil (in_row leaves ps))
reads_row (more {ks = ks} h t) = reads_row t ∙ row_more ks (step_of h)

balance_more : {n k : ℕ} {ps qs : List Part} → Step n k ps qs → 2 * length (in_row leaves qs) + length ps ≡ 2 * length (in_row leaves ps) + length qs + 1
balance_more {n} {k} {ps} (grown low row long) = let l = length_push (in_row leaves ps) k in let m = ap length row in omega arith
balance_more (merged high top row long two) = let m = ap length row in omega arith

-- a cell is one part more, a join one part less
reads_balance : {n : ℕ} {ks : List ℕ} {ps qs : List Part} → Reads n ks ps qs → 2 * length (in_row leaves qs) + length ps ≡ 2 * length (in_row leaves ps) + length qs + length ks
reads_balance none = omega arith
reads_balance (more h t) = let b = balance_more (step_of h) in let r = reads_balance t in omega arith

-- a number that can be read while no cell stands twice breaks nothing
module _ (n : ℕ) (expr : List ℕ) (i : ℕ) (ps qs : List Part) (read : Reads n (take i expr) [] ps) (single : Single (in_row leaves qs)) where
  abbrev here : ℕ
  here = get_or expr i 0

  unbroken : i < length expr → Step n here ps qs → Wrong n expr i → ⊥
  unbroken at (grown low row long) (unknown h) = omega arith
  unbroken at (grown low row long) (again h j k e) =
      let inside : j < length (take i expr) = simp length-take (omega arith) in
      let same : get_or (take i expr) j 0 ≡ here = get_or-take i expr j 0 k ∙ e in
      let came = cells_came n (take i expr) j inside (omega arith) in
      (joined_apart ahead (subst Single row single)).2 here (subst (λ r. Stands r here) (sym (reads_row read)) (subst (Stands (cells n (take i expr))) same came)) (one_stands refl)
  unbroken at (grown low row long) (alone h k _ _ _) = omega arith
  unbroken at (merged high top row long two) (unknown h) = omega arith
  unbroken at (merged high top row long two) (again h j k e) = omega arith
  unbroken at (merged high top row long two) (alone h k rs r short) = let same = ap length (reads_one read r) in omega arith

-- The first i numbers of the expression are read, none of them breaks it, and these parts wait.
pub record Reading (n : ℕ) (expr : List ℕ) (i : ℕ) (ps : List Part) : Type 0 where
  pub read : Reads n (take i expr) [] ps
  pub once : Once n ps
  pub fine : (j : ℕ) → j < i → Breaks n expr j → ⊥

pub reading_none : (n : ℕ) (expr : List ℕ) → Reading n expr 0 []
reading_none n expr = record {
  read = none;
  once = λ i b. let h : i < 0 = b.0 in omega arith;
  fine = λ j h. absurd (omega arith);
}

module _ (n : ℕ) (expr : List ℕ) (i : ℕ) (ps : List Part) (at : i < length expr) (reading : Reading n expr i ps) where
  pub reading_more : (qs : List Part) → Read n (get_or expr i 0) ps qs → Once n qs → Reading n expr (i + 1) qs
  reading_more qs r once = record {
    read = subst (λ ks. Reads n ks [] qs) (sym (take_more expr i 0 at)) (reads_push reading.read r);
    once = once;
    fine = below_more (λ j. Breaks n expr j → ⊥) i reading.fine (λ b. unbroken n expr i ps qs reading.read (once_single n (in_row leaves qs) once) at (step_of r) b.1);
  }

  wrong_here : Unread n (get_or expr i 0) ps → Wrong n expr i
  wrong_here (waiting.unknown h) = unknown h
  wrong_here (waiting.again j h e) =
      let came = cells_only n (take i expr) (subst (λ r. Stands r (get_or expr i 0)) (reads_row reading.read) (j, h, e)) in
      let before : came.0 < i = let k = came.1 in let l = length-take i expr in omega arith in
      again (let l = once_low n (in_row leaves ps) reading.once j h in omega arith) came.0 before (sym (get_or-take i expr came.0 0 before) ∙ came.2)
  wrong_here (waiting.alone h short) =
      ⊎_elim (λ (k : n + 1 < get_or expr i 0). unknown k) (λ (k : get_or expr i 0 ≤ n + 1). alone h k ps reading.read short) (cases_lt (n + 1) (get_or expr i 0))

  -- a number that cannot be read is the first to break the expression
  pub reading_breaks : Unread n (get_or expr i 0) ps → FirstWith (Breaks n expr) i
  reading_breaks u = record { here = (at, wrong_here u); before = reading.fine }

-- at the end of 2n − 1 numbers one part is left, with every cell
pub reading_whole : (n : ℕ) (expr : List ℕ) (i : ℕ) (w : Waiting) (ps : List Part) → length expr + 1 ≡ 2 * n → length expr ≤ i → i ≤ length expr → Reading n expr i ps → Holds ps w → Whole n expr w
reading_whole n expr i w ps long end fit reading holds =
    let most = once_at_most n (in_row leaves ps) reading.once in
    let balance = reads_balance reading.read in
    let taken = length-take i expr in
    go ps (omega arith) (omega arith) reading holds
  where
    go : (ps : List Part) → length ps ≡ 1 → length (in_row leaves ps) ≡ n → Reading n expr i ps → Holds ps w → Whole n expr w
    go [] one all r h = absurd (omega arith)
    go (p ∷ []) one all r h =
        record {
          part = p;
          read = subst (λ ks. Reads n ks [] (p ∷ [])) (take_all i expr end) r.read;
          row = record { long = all; whole = r.once };
          first = h.first;
          second = h.second;
        }
    go (p ∷ q ∷ ps) one all r h = absurd (omega arith)

-- a reading, stopped at the number at place i
record Stop (n : ℕ) (ks : List ℕ) (i : ℕ) (ps rs : List Part) : Type 0 where
  mid : List Part
  next : List Part
  rest : List ℕ
  before : Reads n (take i ks) ps mid
  read : Read n (get_or ks i 0) mid next
  after : Reads n rest next rs

reads_stop : {n : ℕ} {ks : List ℕ} {ps rs : List Part} (i : ℕ) → i < length ks → Reads n ks ps rs → Stop n ks i ps rs
reads_stop i h none = absurd (omega arith)
reads_stop zero h (more {ks = ks} {ps = ps} {qs = qs} r t) = record { mid = ps; next = qs; rest = ks; before = none; read = r; after = t }
reads_stop (suc i) h (more r t) =
    let s = reads_stop i (omega arith) t in
    record { mid = s.mid; next = s.next; rest = s.rest; before = more r s.before; read = s.read; after = s.after }

module _ (n : ℕ) (expr : List ℕ) (o : Order) (laws : Laws o) (e : Expression n expr o) where
  expression_countable : Countable n
  expression_countable = let count = e.count in (omega (arith, laws.some), omega (arith, laws.few))

  expression_long : length expr + 1 ≡ 2 * n
  expression_long = let balance = reads_balance e.read in let all = e.cells.long in omega arith

  expression_unbroken : (i : ℕ) → Breaks n expr i → ⊥
  expression_unbroken i b =
      let s = reads_stop i b.0 e.read in
      let single = subst Single (reads_row s.after) (row_single n (leaves e.part) e.cells) in
      unbroken n expr i s.mid s.next s.before (single_left (in_row leaves s.next) (cells n s.rest) single) b.0 (step_of s.read) b.1

  -- what means an order is refused for no reason
  pub never_refused : {f : SheetFault} → NoExpression n expr f → ⊥
  never_refused (bad_count out) = out expression_countable
  never_refused (wrong_length _ long) = long expression_long
  never_refused (breaks {i} _ _ b) = expression_unbroken i b.here
