-- The entries from this one on tell what they all do.
use Rattle.std.proofs.Common.{◌≡◌}
use Rattle.writing.proofs.Checking.{entries_from}
use Rattle.writing.proofs.checks.check_entries.Given as goal

abbrev pub invariant-loop-i : goal.invariant-loop-i
invariant-loop-i l = entries_from l.n l.entries 0 ≡ entries_from l.n l.entries l.i
