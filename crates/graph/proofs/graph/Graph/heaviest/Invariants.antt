-- The nodes below v are done, and what stands at each node done is known.
use Rattle.std.proofs.Common.{ℕ, ◌<◌}
use Rattle.graph.specs.Nodes.{Has}
use Rattle.graph.specs.Settling.{SettledIn, GoneOn}
use Rattle.graph.proofs.graph.Graph.heaviest.Given as goal

abbrev pub invariant-loop-v : goal.invariant-loop-v
invariant-loop-v g l =
    record {
      on : GoneOn l.initial.walk l.walk;
      settled : SettledIn g.T.Length.kind l.walk;
      below : (u : ℕ) → u < l.v → Has l.walk.done u;
    }
