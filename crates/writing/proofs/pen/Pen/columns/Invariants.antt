-- The lengths of the cells so far stand in the output.
use Rattle.std.proofs.Common.{length}
use Rattle.writing.specs.Calls.{Puts}
use Rattle.writing.proofs.PutTogether.{cells}
use Rattle.writing.proofs.pen.Pen.columns.Given as goal

abbrev pub invariant-loop-first : goal.invariant-loop-first
invariant-loop-first g l = record {
  can_next : (goal.iterator-loop-first g).can_next l.first-iterator;
  is_finite : (goal.iterator-loop-first g).is_finite l.first-iterator;
  put : Puts l.initial.self (cells g.T.Numbered.numbers l.firsts l.seconds (length l.yielded)) l.self;
}
