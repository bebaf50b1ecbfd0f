use Rattle.std.proofs.Common.{ℕ, ◌+◌, ◌<◌}
use Rattle.placement.specs.Rule.{middle}
use Rattle.group.specs.Arranged.{meaning_of, count_of}
use Rattle.placing.specs.Edges.{EdgeAt}
use Rattle.placing.specs.Sizes.{entries}
use Rattle.placing.proofs.edges.left_edges.Given as goal

abbrev pub invariant-loop-a : goal.invariant-loop-a
invariant-loop-a g l =
    let k = g.T.Length.kind in
    (a : ℕ) → a < l.a → EdgeAt k (meaning_of l.cells) a (middle k l.span (entries k l.widths a) (entries k l.work a) (entries k l.work (count_of l.cells + a))) (entries k l.x a)
