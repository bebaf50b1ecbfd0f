-- The checks of a swap: which answer each state of the two cells comes to, and that the swap back is never refused.
use Rattle.std.proofs.Common.{◌≡◌, ℕ, ◌<◌, true, cond, eqb, ltb, ◌≢◌, Ok, Err, Result, ◌∙◌, arith, MatchResult}
use Rattle.std.proofs.lemmas.Bool.Decides.{nat_tests}
use Rattle.std.proofs.lemmas.Result.{MatchResult-at_ok}
use Rattle.refusal.specs.declared.fault.SheetFault.{SheetFault}
use Rattle.refusal.specs.declared.fault.SheetFault.TheVariants.{SameCell}
use Rattle.book.specs.Order.{Order, SameOrder, swapped}
use Rattle.book.specs.Calls.{of_cells}
use Rattle.book.proofs.Cells.{cells_in}
use Rattle.book.proofs.Trade.{there_and_back}

abbrev Answer : Type 0
Answer = Result (Unit {0}) SheetFault

-- a number that is no cell is refused, whatever follows
pub outside : (n a b : ℕ) (f : SheetFault) (rest : Answer) → ◌≡◌ {A = Answer} (Err f) (of_cells n a b (Ok tt)) → of_cells n a b rest ≡ Err f
outside n a b f rest e = grind (arith, nat_tests)

-- two cells pass on to what follows
pub inside : (n a b : ℕ) (rest : Answer) → ◌≡◌ {A = Answer} (Ok tt) (of_cells n a b (Ok tt)) → of_cells n a b rest ≡ rest
inside n a b rest e =
    let ok = cells_in n a b tt (Ok tt) e in
    let a_cell : ltb a n ≡ true = let h = ok.a_in in grind (arith, nat_tests) in
    let b_cell : ltb b n ≡ true = let h = ok.b_in in grind (arith, nat_tests) in
    simp (a_cell, b_cell)

pub same_cell_told : (a b : ℕ) → a ≡ b → ◌≡◌ {A = Answer} (cond (eqb a b) (Err (SameCell a)) (Ok tt)) (Err (SameCell a))
same_cell_told a b e = grind (arith, nat_tests)

pub two_cells : (a b : ℕ) → a ≢ b → ◌≡◌ {A = Answer} (cond (eqb a b) (Err (SameCell a)) (Ok tt)) (Ok tt)
two_cells a b ne = grind (arith, nat_tests)

-- a swap and the same swap again: it is not refused, and the order is what it was
pub swapped_back : (a b : ℕ) (o i q : Order) (r : Answer) → a < o.count → b < o.count → SameOrder (swapped a b o) i → r ≡ of_cells i.count a b (Ok tt) → MatchResult r (λ _. SameOrder (swapped a b i) q) (λ _. SameOrder i q) → SameOrder o q
swapped_back a b o i q r a_in b_in one answer two =
    let n = one.count in
    let a_cell : ltb a i.count ≡ true = grind (arith, nat_tests) in
    let b_cell : ltb b i.count ≡ true = grind (arith, nat_tests) in
    let fine : r ≡ Ok tt = answer ∙ simp (a_cell, b_cell) in
    there_and_back a b o i q a_in b_in one (MatchResult-at_ok (λ _. SameOrder (swapped a b i) q) (λ _. SameOrder i q) tt fine two)
