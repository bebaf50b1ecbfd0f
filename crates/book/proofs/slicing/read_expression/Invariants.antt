use Rattle.std.proofs.Common.{List}
use Rattle.book.specs.Slicing.{Part}
use Rattle.book.specs.Waiting.{Holds}
use Rattle.book.proofs.Reading.{Reading}
use Rattle.book.proofs.slicing.read_expression.Given as goal

abbrev pub invariant-loop-i : goal.invariant-loop-i
invariant-loop-i l = (ps : List Part) × Reading l.n l.expression l.i ps × Holds ps l.waiting
