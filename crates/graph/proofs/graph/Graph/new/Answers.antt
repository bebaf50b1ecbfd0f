use Rattle.std.proofs.Common.{refl, rules}
use Rattle.graph.specs.Nodes.{most_nodes}
use Rattle.graph.proofs.Links.{none_next}
use Rattle.graph.proofs.graph.Graph.new.Goals as goal

pub invariant_of-result-clause-within : goal.invariant_of-result-clause-within
invariant_of-result-clause-within c = λ v u h. absurd (none_next _ (search rules) most_nodes v u h)

pub returns : goal.returns
returns c = (c.if-nodes-gt-MOST_NODES.false, record { count = refl; nothing = λ v u h. none_next _ (search rules) most_nodes v u h.1 })
