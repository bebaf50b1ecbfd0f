-- Every lower cell that is centred has an even width.
use Rattle.group.specs.Group.{mate_of}
use Rattle.placing.specs.Sizes.{entries, Each, Balanced}
use Rattle.placing.proofs.sizes.check_centres.Given as goal

abbrev pub invariant-loop-cell : goal.invariant-loop-cell
invariant-loop-cell g l = let k = g.T.Length.kind in Each l.cell (Balanced k (mate_of l.group) (entries k l.widths))
