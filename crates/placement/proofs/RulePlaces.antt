-- The placement of the rule is a placement.
use Rattle.std.proofs.Common.{inl}
use Rattle.length.specs.Kind.{Kind, Laws}
use Rattle.placement.specs.Theorems.{RulePlaces}
use Rattle.placement.proofs.Bottoms.{under_ends_below, mates_stand_level}
use Rattle.placement.proofs.LeftEdges.{ends_within, ends_before, mates_mirror}

pub rule_places_lem : {V : Type 0} {k : Kind V} (laws : Laws k) → RulePlaces k
rule_places_lem laws m lawful clean w h before after x y half depth sized given = record {
  inside = ends_within laws lawful sized given;
  beside = ends_before laws lawful sized given;
  stacked = λ a b over.
      under_ends_below laws a b (y a) (y b) (inl over) (given.bottoms a over.apart.a_in) (given.bottoms b over.apart.b_in);
  level = λ a b mate.
      mates_stand_level laws a b (y a) (y b) lawful mate (given.bottoms a mate.cell) (given.bottoms b (lawful.both_ways a b mate).cell);
  mirrored = λ a b mate. mates_mirror laws lawful sized given a b clean mate;
}
