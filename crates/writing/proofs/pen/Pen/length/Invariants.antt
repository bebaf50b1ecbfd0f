-- The length's numbers so far stand in the output.
use Rattle.std.proofs.Common.{take}
use Rattle.writing.specs.Calls.{Puts}
use Rattle.writing.proofs.pen.Pen.length.Given as goal

abbrev pub invariant-loop-number : goal.invariant-loop-number
invariant-loop-number g l = Puts l.initial.self (take l.number-index l.number-items) l.self
