-- What the calls of a book answer, by the order that the book means.
use Rattle.std.specs.Prelude.{ℕ, cond, Ok, Err, Result, ◌==◌, nat_lt}
use Rattle.refusal.specs.declared.fault.SheetFault.{SheetFault}
use Rattle.refusal.specs.declared.fault.SheetFault.TheVariants.{NoSuchCell, SameCell}
use Rattle.book.specs.declared.relation.Relation.{Relation}
use Rattle.book.specs.Order.{Order}

-- v, unless a is no cell of n
abbrev pub of_cell : {V : Type 0} → ℕ → ℕ → Result V SheetFault → Result V SheetFault
of_cell n a v = cond (nat_lt a n) v (Err (NoSuchCell a))

-- v, unless a or b is no cell of n; the first such is told
abbrev pub of_cells : {V : Type 0} → ℕ → ℕ → ℕ → Result V SheetFault → Result V SheetFault
of_cells n a b v = of_cell n a (of_cell n b v)

-- how a lies to b: no such cell comes first, then one cell twice
abbrev pub asked : Order → ℕ → ℕ → Result Relation SheetFault
asked o a b = of_cells o.count a b (cond (a == b) (Err (SameCell a)) (Ok (o.rel a b)))
