-- The bytes so far, and the groups of what is left, are the bytes of the number.
use Rattle.std.proofs.Common.{ℕ}
use Rattle.numbers.proofs.WritingSteps.{Left}
use Rattle.numbers.proofs.write_number.Given as goal

abbrev pub invariant-loop-byte : goal.invariant-loop-byte
invariant-loop-byte l = (k : ℕ) × Left l.v l.byte-items l.byte-index l.rest k
