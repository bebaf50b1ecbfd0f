use Rattle.std.proofs.Common.{◌≡◌, ℕ, ◌+◌, ◌<◌, sym, arith}
use Rattle.length.specs.Kind.{sum_limit}
use Rattle.placement.specs.Rule.{middle}
use Rattle.group.specs.Arranged.{meaning_of, count_of}
use Rattle.placing.specs.Edges.{EdgeAt}
use Rattle.placing.specs.Sizes.{entries}
use Rattle.placing.proofs.Filling.{filled_more}
use Rattle.placing.proofs.edges.left_edges.Goals as goal

pub returns-in_err-span : goal.returns-in_err-span
returns-in_err-span g c =
    let k = g.T.Length.kind in
    let over : sum_limit < k.measure c.args.half + k.measure c.args.half = c.in_err-span.ensures in
    rw c.from_residual.ensures (λ room. let small = room.span_small in omega arith)

pub returns-in_err-edge : goal.returns-in_err-edge
returns-in_err-edge g c =
    let k = g.T.Length.kind in
    let span : c.in_ok-span.span ≡ k.plus c.args.half c.args.half = c.in_ok-span.ensures.1 in
    rw c.from_residual-in_err-edge.ensures
    (λ room. c.in_err-edge.ensures (rw span (room.each c.loop-a.a (omega (arith, c.requires.x, c.loop-a.auto.x, c.loop-a-test.true)))))

pub loop-a-preserved : goal.loop-a-preserved
loop-a-preserved g c =
    let V = g.row.T.Denot in
    let k = g.T.Length.kind in
    let cells = c.args.cells.now in
    let w = entries k c.args.widths.now in
    let work = entries k c.args.work.now in
    let twice : ℕ → V = λ b. middle k c.in_ok-span.span (w b) (work b) (work (count_of cells + b)) in
    filled_more (λ (b : ℕ) (e : V). EdgeAt k (meaning_of cells) b (twice b) e) c.loop-a.x c.loop-a.a c.in_ok-edge.field-0 k.zero
    (omega (arith, c.loop-a.auto.x, c.loop-a-test.true))
    c.loop-a.invariant
    c.in_ok-edge.ensures

pub returns : goal.returns
returns g c =
    let k = g.T.Length.kind in
    let span : c.in_ok-span.span ≡ k.plus c.args.half c.args.half = c.in_ok-span.ensures.1 in
    record { each = λ a here. rw (sym span) (c.loop-a.invariant a (omega (arith, here, c.requires.x, c.loop-a.auto.x, c.loop-a-test.false))) }
