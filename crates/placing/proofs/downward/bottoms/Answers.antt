use Rattle.std.proofs.Common.{◌≡◌, ℕ, ◌<◌, get_or, sym, ◌∙◌, arith}
use Rattle.graph.specs.Heaviest.{dealt, Bounded}
use Rattle.group.proofs.LawfulSheet.{lawful_arranged}
use Rattle.placing.proofs.Present.{absent_refutes}
use Rattle.placing.proofs.Dealt.{dealt_first}
use Rattle.placing.proofs.DownwardGraph.{falls_short, falls_light, given_down}
use Rattle.placing.proofs.downward.bottoms.Goals as goal

pub reach-requires : goal.reach-requires
reach-requires g c = record {
  weighted = omega (arith, c.requires.heights, (g.met.B.Book.lawful c.args.cells.now.book.now).some);
  long = c.requires.y ∙ sym c.in_ok-graph.ensures.count;
}

pub returns-in_err-graph : goal.returns-in_err-graph
returns-in_err-graph g c = rw c.from_residual.ensures (λ clean sizes. c.in_err-graph.ensures)

pub returns : goal.returns
returns g c =
    let V = g.row.T.Denot in
    let k = g.T.Length.kind in
    let laws = g.met.T.Length.laws in
    let o = g.B.Book.order c.args.cells.now.book.now in
    let lawful = lawful_arranged c.args.cells.now (g.met.B.Book.lawful c.args.cells.now.book.now) in
    let falls = c.in_ok-graph.ensures in
    let heights = c.args.heights.now in
    let h : ℕ → V = λ a. get_or heights a k.zero in
    let weight : ℕ → V = dealt k.zero heights in
    let weighs : (a : ℕ) → a < o.count → weight a ≡ h a = dealt_first k.zero heights o.count c.requires.heights in
    let y : ℕ → V = λ a. get_or c.reach.new.values a k.zero in
    absent_refutes (λ _. Bounded k c.in_ok-graph.graph y) c.reach.result
    (λ clean sizes. c.reach.ensures.finishes (falls_short falls lawful clean) (falls_light falls laws h weight weighs sizes))
    (λ (d : V) so. given_down falls laws h weight weighs y d so)
    c.reach.ensures.found
