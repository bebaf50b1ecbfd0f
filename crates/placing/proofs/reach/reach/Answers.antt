use Rattle.std.proofs.Common.{◌≡◌, ℕ, length, get_or, arith}
use Rattle.length.proofs.Answered.{cases_map}
use Rattle.length.proofs.Joins.{join_same}
use Rattle.graph.specs.Heaviest.{dealt}
use Rattle.placing.proofs.Limits.{path_and_node_within}
use Rattle.placing.proofs.Present.{present}
use Rattle.placing.proofs.reach.reach.Goals as goal

pub returns : goal.returns
returns g c =
    let V = g.row.T.Denot in
    let k = g.T.Length.kind in
    let graph = c.args.graph.now in
    let weight : ℕ → V = dealt k.zero c.args.weights.now in
    let value : ℕ → V = λ u. get_or c.heaviest.new.out u k.zero in
    let long : length c.heaviest.new.out ≡ graph.nodes = omega (arith, c.heaviest.auto.out, c.requires.long) in
    record {
      found =
          cases_map c.farthest_end.result
          (λ _. tt)
          (λ (d : V) so. record { heaviest = c.in_ok-heaviest.ensures.found; end_is = join_same (λ u low. omega arith) (λ u low. omega arith) so })
          c.farthest_end.ensures;
      finishes = λ short light.
          let small = c.in_ok-heaviest.ensures.finishes c.requires.weighted c.requires.long short light in
          present c.farthest_end.result
          (λ over. path_and_node_within k graph weight value light small over.0 (let low = over.1 in omega arith) over.2)
          (λ (d : V) so. small)
          c.farthest_end.ensures;
    }
