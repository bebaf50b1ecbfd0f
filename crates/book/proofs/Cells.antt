-- What an `Ok` of a call on two cells tells of them.
use Rattle.std.proofs.Common.{◌≡◌, ℕ, ◌<◌, Bool, Ok, Err, Decides, Result, sym, ◌∙◌, arith}
use Rattle.std.proofs.lemmas.Bool.Decides.{nat_tests}
use denote.Enum.Bare.{Bare, sameb, same_true, true_same}
use denote.Enum.Declared.{Declared}
use Rattle.refusal.specs.declared.fault.SheetFault.{SheetFault}
use Rattle.book.specs.declared.relation.Relation.{Relation}
use Rattle.book.specs.Order.{Order, Apart}
use Rattle.book.specs.Calls.{of_cells, asked}

-- both are cells, and the answer is the one wanted
pub record CellsIn {V : Type 0} (n a b : ℕ) (v : V) (r : Result V SheetFault) : Type 0 where
  pub a_in : a < n
  pub b_in : b < n
  pub answer : Ok v ≡ r

pub cells_in : {V : Type 0} (n a b : ℕ) (v : V) (r : Result V SheetFault) → Ok v ≡ of_cells n a b r → CellsIn n a b v r
cells_in n a b v r e = record { a_in = grind (arith, nat_tests); b_in = grind (arith, nat_tests); answer = grind (arith, nat_tests) }

-- they are different cells, and the relation is the one that holds
pub record Answered (o : Order) (a b : ℕ) (v : Relation) : Type 0 where
  pub apart : Apart o a b
  pub value : v ≡ o.rel a b

pub answered : (o : Order) (a b : ℕ) (v : Relation) → Ok v ≡ asked o a b → Answered o a b v
answered o a b v e = record {
  apart = record { a_in = grind (arith, nat_tests); b_in = grind (arith, nat_tests); differ = grind (arith, nat_tests) };
  value = grind (arith, nat_tests);
}

-- `==` of two values of an enum without fields decides whether they are the same
pub same_decides : (D : Declared) → Bare D.parts → (r : Bool) (x y : D.D) → r ≡ sameb D x y → Decides r (x ≡ y)
same_decides D bare r x y e = (λ t. same_true D bare x y (sym e ∙ t), λ s. e ∙ true_same D x y s)

-- a refused question is about no two different cells
pub refused_not_apart : (o : Order) (a b : ℕ) (f : SheetFault) → Err f ≡ asked o a b → Apart o a b → ⊥
refused_not_apart o a b f e d = let p = d.a_in in let q = d.b_in in let r = d.differ in grind (arith, nat_tests)
