-- No placement of the sheet is lower or narrower than the rule's.
use Rattle.std.proofs.Common.{sym, subst}
use Rattle.length.specs.Kind.{Kind, Laws}
use Rattle.placement.specs.Theorems.{RuleIsBest}
use Rattle.placement.proofs.DownwardRivals.{bottom_fits}
use Rattle.placement.proofs.AcrossRivals.{longest_fits}

pub rule_is_best_lem : {V : Type 0} {k : Kind V} (laws : Laws k) → RuleIsBest k
rule_is_best_lem {V} {k} laws m lawful w h before after x y half depth sized given = record {
  lowest = λ x' y' half' rival a here. bottom_fits laws rival a (y a) (given.bottoms a here);
  narrowest = λ x' y' half' rival.
      subst (λ (t : V). k.at_most t half') (sym given.half_is)
      (longest_fits laws lawful sized rival given.longest given.longest_is);
}
