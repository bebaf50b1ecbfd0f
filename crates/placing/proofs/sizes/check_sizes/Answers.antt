-- The three checks in turn: each refusal knows that the checks before it passed.
use Rattle.std.proofs.Common.{arith}
use Rattle.std.proofs.lemmas.Result.{MatchResult-weaker}
use Rattle.placing.specs.Sizes.{entries, Each, Sized}
use Rattle.placing.proofs.LawfulSizes.{fit}
use Rattle.placing.proofs.sizes.check_sizes.Goals as goal

pub returns : goal.returns
returns g c =
    let group = c.args.group.now in
    let k = g.T.Length.kind in
    let w = entries k c.args.widths.now in
    let h = entries k c.args.heights.now in
    let sized : Each group.count (Sized k w h) = λ a low. c.in_ok-check_each.ensures a (omega (arith, low, c.requires.widths)) in
    let matched = c.in_ok-check_pairs.ensures in
    MatchResult-weaker c.check_centres.result c.check_centres.ensures (λ _ balanced. fit k group w h sized matched balanced) (λ f refused. refused h sized matched)
