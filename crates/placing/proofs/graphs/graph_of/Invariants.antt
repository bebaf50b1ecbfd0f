use Rattle.std.proofs.Common.{◌≡◌, ◌<◌, ◌⊎◌}
use Rattle.placing.specs.Graphs.{Built}
use Rattle.placing.proofs.graphs.graph_of.Given as goal

abbrev pub invariant-loop-b : goal.invariant-loop-b
invariant-loop-b g l = Built l.nodes (goal.F-post g l.steps) (λ a b. ((a < l.a) × (b < l.n)) ⊎ ((a ≡ l.a) × (b < l.b))) l.graph

abbrev pub invariant-loop-a : goal.invariant-loop-a
invariant-loop-a g l = Built l.nodes (goal.F-post g l.steps) (λ a b. (a < l.a) × (b < l.n)) l.graph
