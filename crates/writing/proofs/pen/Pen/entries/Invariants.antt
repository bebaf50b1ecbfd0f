-- The entries so far stand in the output.
use Rattle.std.proofs.Common.{take}
use Rattle.formats.specs.Files.{entry_numbers}
use Rattle.writing.specs.Calls.{Puts}
use Rattle.writing.proofs.pen.Pen.entries.Given as goal

abbrev pub invariant-loop-entry : goal.invariant-loop-entry
invariant-loop-entry l = Puts l.initial.self (entry_numbers (take l.entry-index l.entries)) l.self
