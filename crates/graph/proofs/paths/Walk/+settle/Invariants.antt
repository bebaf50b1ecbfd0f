-- The measures: the fuel, and what is left to take.
use Rattle.graph.specs.Nodes.{rank}
use Rattle.graph.proofs.Begins.{Underway}
use Rattle.graph.proofs.paths.Walk.+settle.Given as goal

abbrev pub decreases-settle : goal.decreases-settle
decreases-settle g l = l.fuel

abbrev pub invariant-loop-u : goal.invariant-loop-u
invariant-loop-u g l = Underway g.T.Length.kind l.fn.self l.self l.v l.left l.most

abbrev pub decreases-loop-u : goal.decreases-loop-u
decreases-loop-u g l = rank l.left
