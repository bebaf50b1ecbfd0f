use Rattle.placement.proofs.RulePlaces.{rule_places_lem}
use Rattle.placement.proofs.rule_places.Goals as goal

pub returns : goal.returns
returns g c = rule_places_lem g.met.T.Length.laws
