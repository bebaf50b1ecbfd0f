-- The heaviest paths of the graph across are the values of the nodes; they and the longest chain are small.
use Rattle.std.proofs.Common.{ℕ, ◌+◌, ◌*◌, ◌<◌, ◌≤◌, arith}
use Rattle.length.specs.Kind.{Kind, Laws, largest_size}
use Rattle.length.specs.Join.{IsJoin}
use Rattle.length.proofs.Joins.{join_same}
use Rattle.placement.specs.Meaning.{Meaning, Lawful}
use Rattle.graph.specs.declared.graph.Graph.{Graph}
use Rattle.graph.specs.Steps.{Step}
use Rattle.graph.specs.Heaviest.{Light, Bounded}
use Rattle.placing.specs.Graphs.{Sides}
use Rattle.placing.specs.Reach.{Reached}
use Rattle.placing.specs.Values.{GivenNodes, SmallAcross}
use Rattle.placing.proofs.JoinsBelow.{join_is_small}
use Rattle.placing.proofs.CodedChains.{in_of_paths}
use Rattle.placing.proofs.LongestChain.{longest_of_paths}
use Rattle.placing.proofs.AcrossGraph.{Twice, twice_weighs}

module _ {m : Meaning} {g : Graph} (lawful : Lawful m) (sides : Sides m g) {V : Type 0} {k : Kind V} (laws : Laws k) (w weight value : ℕ → V) (longest : V) (reached : Reached k g weight value longest) where
  is_join : IsJoin k (λ (u : ℕ). u < 2 * m.order.count) (λ (u : ℕ). k.plus (value u) (weight u)) longest
  is_join = join_same (λ u low. omega (arith, sides.count)) (λ u low. omega (arith, sides.count)) reached.end_is

  pub given_nodes : Twice m.order.count w weight → GivenNodes k m w value longest
  given_nodes twice =
      let weighs = twice_weighs m.order.count w weight twice in
      record {
        longest_is = longest_of_paths lawful (Step g) sides.only sides.all laws w weight value weighs
            (λ u below. reached.heaviest.each u (omega (arith, sides.count)))
            longest is_join;
        each_is = λ u below. in_of_paths lawful (Step g) sides.only sides.all laws w weight weighs u (value u) (reached.heaviest.each u (omega (arith, sides.count)));
      }

  pub small_across : Light k g weight → Bounded k g value → SmallAcross k m (2 * m.order.count) value longest
  small_across light bounded = record { each_small = each; longest_small = join_is_small laws (λ (u : ℕ). k.plus (value u) (weight u)) (2 * m.order.count) _ longest none sum is_join }
    where
      each : (u : ℕ) → u < 2 * m.order.count → k.measure (value u) ≤ 2 * m.order.count * largest_size
      each u below = let small : k.measure (value u) ≤ g.nodes * largest_size = bounded u (omega (arith, sides.count)) in omega (arith, sides.count)

      none : k.measure k.zero ≤ (2 * m.order.count + 1) * largest_size
      none =
          let some : 1 ≤ m.order.count = lawful.laws.some in
          omega (arith, laws.measure_keeps _ _ (laws.zero_least (value 0)), each 0 (omega arith))

      sum : (u : ℕ) → u < 2 * m.order.count → k.measure (k.plus (value u) (weight u)) ≤ (2 * m.order.count + 1) * largest_size
      sum u below =
          let node : k.measure (weight u) ≤ largest_size = light u (omega (arith, sides.count)) in
          omega (arith, laws.measure_plus (value u) (weight u), each u below)
