-- Every lower cell has sizes.
use Rattle.std.proofs.Common.{length}
use Rattle.placing.specs.Sizes.{entries, Each, Sized}
use Rattle.placing.proofs.sizes.check_each.Given as goal

abbrev pub invariant-loop-cell : goal.invariant-loop-cell
invariant-loop-cell g l = let k = g.T.Length.kind in Each (length l.yielded) (Sized k (entries k l.widths) (entries k l.heights))
