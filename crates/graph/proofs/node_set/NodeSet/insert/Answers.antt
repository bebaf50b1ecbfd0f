use Rattle.std.proofs.Common.{ap}
use lib.Bits.{bit_or}
use Rattle.std.proofs.lemmas.Nat.{one_shl}
use Rattle.graph.specs.Nodes.{most_nodes}
use Rattle.graph.proofs.Sets.{inserted}
use Rattle.graph.proofs.node_set.NodeSet.insert.Goals as goal

pub returns-then-u-lt-MOST_NODES : goal.returns-then-u-lt-MOST_NODES
returns-then-u-lt-MOST_NODES c = inserted c.args.self.now _ c.args.u (ap (bit_or c.args.self.now.0) (one_shl c.args.u most_nodes c.if-u-lt-MOST_NODES.true))
