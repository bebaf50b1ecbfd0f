use Rattle.book.proofs.Tables.{Table}
use Rattle.book.proofs.sequence_book.places_of.Given as goal

abbrev pub invariant-loop-i : goal.invariant-loop-i
invariant-loop-i l = Table l.n l.i l.row l.places l.came
