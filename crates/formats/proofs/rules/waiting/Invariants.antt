-- The parts that wait after the numbers so far.
use Rattle.std.proofs.Common.{◌≡◌, ◌≤◌, take}
use Rattle.formats.specs.Rules.{waiting}
use Rattle.formats.proofs.rules.waiting.Given as goal

abbrev pub invariant-loop-number : goal.invariant-loop-number
invariant-loop-number l = (l.parts ≡ waiting l.n 0 (take l.number-index l.before)) × (l.parts ≤ l.number-index)
