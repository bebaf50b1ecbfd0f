use Rattle.placement.proofs.Best.{rule_is_best_lem}
use Rattle.placement.proofs.rule_is_best.Goals as goal

pub returns : goal.returns
returns g c = rule_is_best_lem g.met.T.Length.laws
