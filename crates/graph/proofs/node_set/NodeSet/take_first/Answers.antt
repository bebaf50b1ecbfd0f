use Rattle.std.proofs.Common.{◌^◌, ◌<◌, refl, arith}
use Rattle.graph.specs.Nodes.{most_nodes}
use Rattle.graph.proofs.Sets.{taken}
use Rattle.graph.proofs.node_set.NodeSet.take_first.Goals as goal

pub returns : goal.returns
returns c =
    let s = c.args.self.now in
    let some : 0 < s.0 = omega arith in
    let fits : s.0 < 2 ^ most_nodes = omega arith in
    taken s _ _ some fits refl refl
