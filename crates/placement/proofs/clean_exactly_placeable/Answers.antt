use Rattle.placement.proofs.Placeable.{clean_exactly_placeable_lem}
use Rattle.placement.proofs.clean_exactly_placeable.Goals as goal

pub returns : goal.returns
returns c = clean_exactly_placeable_lem c.values_exist.ensures c.rule_places.ensures c.forbidden_unplaceable.ensures
