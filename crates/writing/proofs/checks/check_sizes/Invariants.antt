-- The lengths of the cells from this one on tell what they all do.
use Rattle.std.proofs.Common.{◌≡◌, length}
use Rattle.writing.proofs.Checking.{sizes_from}
use Rattle.writing.proofs.checks.check_sizes.Given as goal

abbrev pub invariant-loop-cell : goal.invariant-loop-cell
invariant-loop-cell g l = record {
  can_next : (goal.iterator-loop-cell g).can_next l.cell-iterator;
  is_finite : (goal.iterator-loop-cell g).is_finite l.cell-iterator;
  so_far : sizes_from g.T.Numbered.numbers l.widths l.heights 0 ≡ sizes_from g.T.Numbered.numbers l.widths l.heights (length l.yielded);
}
