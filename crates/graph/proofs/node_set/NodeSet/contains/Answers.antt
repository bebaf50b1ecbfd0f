use Rattle.std.proofs.Common.{◌^◌, ◌<◌, arith, rules}
use Rattle.std.proofs.lemmas.Bool.{lt-ltb, ltb-true}
use Rattle.graph.specs.Nodes.{most_nodes}
use Rattle.graph.proofs.Sets.{has_below}
use Rattle.graph.proofs.node_set.NodeSet.contains.Goals as goal

pub returns-else-u-lt-MOST_NODES : goal.returns-else-u-lt-MOST_NODES
returns-else-u-lt-MOST_NODES c =
    let s = c.args.self in
    let u = c.args.u in
    let fits : s.0 < 2 ^ most_nodes = search rules in
    (λ e. absurd (omega (arith, ltb-true u most_nodes e)), λ has. lt-ltb u most_nodes (has_below s u fits has))
