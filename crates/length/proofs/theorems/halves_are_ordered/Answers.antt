use Rattle.std.proofs.Common.{sym}
use Rattle.std.proofs.lemmas.Bool.{both_ways}
use Rattle.length.specs.Kind.{Kind, Laws}
use Rattle.length.specs.Theorems.{HalvesOrdered}
use Rattle.length.proofs.Algebra.{lower_keeps, upper_keeps, lower_at_most_upper, halves_make, halves_reflect}
use Rattle.length.proofs.theorems.halves_are_ordered.Goals as goal

ordered : {V : Type 0} {k : Kind V} → Laws k → HalvesOrdered k
ordered laws = record { lower_keeps = lower_keeps laws; upper_keeps = upper_keeps laws; lower_at_most_upper = lower_at_most_upper laws; halves_make = halves_make laws }

pub returns-then-at_most : goal.returns-then-at_most
returns-then-at_most g c =
    let k = g.T.Length.kind in
    let laws = g.met.T.Length.laws in
    let low : k.at_most (k.lower c.args.a) (k.lower c.args.b) = rw (sym c.lower_half.ensures, sym c.lower_half-2.ensures) (c.at_most.ensures.0 c.if-at_most.true) in
    record {
      theorem = ordered laws;
      value = (
        λ yes. halves_reflect laws _ _ low (rw (sym c.upper_half.ensures, sym c.upper_half-then-at_most.ensures) (c.at_most-then-at_most.ensures.0 yes)),
        λ h. c.at_most-then-at_most.ensures.1 (rw (c.upper_half.ensures, c.upper_half-then-at_most.ensures) (upper_keeps laws _ _ h)),
      );
    }

pub returns-else-at_most : goal.returns-else-at_most
returns-else-at_most g c =
    let laws = g.met.T.Length.laws in
    record {
      theorem = ordered laws;
      value = (
        λ yes. absurd (both_ways c.at_most.result c.if-at_most.false yes),
        λ h. c.at_most.ensures.1 (rw (c.lower_half.ensures, c.lower_half-2.ensures) (lower_keeps laws _ _ h)),
      );
    }
