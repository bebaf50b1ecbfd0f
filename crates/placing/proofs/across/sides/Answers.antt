use Rattle.std.proofs.Common.{arith, of_calls}
use Rattle.group.proofs.LawfulSheet.{lawful_arranged}
use Rattle.length.proofs.Answered.{cases_map}
use Rattle.placing.proofs.AcrossGraph.{sides_given}
use Rattle.placing.proofs.across.sides.Goals as goal

pub returns : goal.returns
returns g c =
    let laws = g.met.B.Book.lawful c.args.cells.now.book.now in
    cases_map c.graph_of.result
    (λ many. omega (arith, many, c.count-n.ensures, laws.few))
    (λ x so. sides_given (lawful_arranged c.args.cells.now laws) x c.count-n.ensures so (λ a b r given. search of_calls))
    c.graph_of.ensures
