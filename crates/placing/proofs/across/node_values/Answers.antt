use Rattle.std.proofs.Common.{ℕ, get_or, sym, ◌∙◌, arith}
use Rattle.length.proofs.Answered.{cases_map}
use Rattle.graph.specs.Heaviest.{dealt}
use Rattle.group.proofs.LawfulSheet.{lawful_arranged}
use Rattle.placing.proofs.Present.{present_both}
use Rattle.placing.proofs.Dealt.{dealt_first, dealt_again}
use Rattle.placing.proofs.AcrossGraph.{Twice, sides_short, sides_light}
use Rattle.placing.proofs.NodeValues.{given_nodes, small_across}
use Rattle.placing.proofs.across.node_values.Goals as goal

pub reach-requires : goal.reach-requires
reach-requires g c = record {
  weighted = omega (arith, c.requires.widths, (g.met.B.Book.lawful c.args.cells.now.book.now).some);
  long = c.requires.values ∙ sym c.in_ok-graph.ensures.count;
}

pub returns-in_err-graph : goal.returns-in_err-graph
returns-in_err-graph g c = rw c.from_residual.ensures (record { found = tt; finishes = λ clean sizes. c.in_err-graph.ensures })

pub returns : goal.returns
returns g c =
    let V = g.row.T.Denot in
    let k = g.T.Length.kind in
    let laws = g.met.T.Length.laws in
    let o = g.B.Book.order c.args.cells.now.book.now in
    let lawful = lawful_arranged c.args.cells.now (g.met.B.Book.lawful c.args.cells.now.book.now) in
    let sides = c.in_ok-graph.ensures in
    let widths = c.args.widths.now in
    let w : ℕ → V = λ a. get_or widths a k.zero in
    let weight : ℕ → V = dealt k.zero widths in
    let value : ℕ → V = λ u. get_or c.reach.new.values u k.zero in
    let twice : Twice o.count w weight = λ a here. (dealt_first k.zero widths o.count c.requires.widths a here, dealt_again k.zero widths o.count c.requires.widths a here) in
    record {
      found = cases_map c.reach.result (λ _. tt) (λ (d : V) so. given_nodes lawful sides laws w weight value d so twice) c.reach.ensures.found;
      finishes = λ clean sizes.
          let light = sides_light sides laws w weight twice sizes in
          present_both c.reach.result
          (λ (d : V) so small. small_across lawful sides laws w weight value d so light small)
          c.reach.ensures.found
          (c.reach.ensures.finishes (sides_short sides lawful clean) light);
    }
