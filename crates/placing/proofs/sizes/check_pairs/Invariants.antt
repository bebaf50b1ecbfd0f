-- Every lower cell agrees with its mate.
use Rattle.group.specs.Group.{mate_of}
use Rattle.placing.specs.Sizes.{entries, Each, Matched}
use Rattle.placing.proofs.sizes.check_pairs.Given as goal

abbrev pub invariant-loop-cell : goal.invariant-loop-cell
invariant-loop-cell g l = let k = g.T.Length.kind in Each l.cell (Matched (mate_of l.group) (entries k l.widths) (entries k l.heights))
