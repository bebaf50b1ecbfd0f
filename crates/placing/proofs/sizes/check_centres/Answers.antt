-- The first centred cell whose width is odd.
use Rattle.std.proofs.Common.{arith, rules}
use Rattle.std.proofs.lemmas.List.{get_or_read}
use Rattle.length.specs.Kind.{Even}
use Rattle.placing.specs.Sizes.{odd_centre}
use Rattle.placing.proofs.LawfulSizes.{not_at}
use Rattle.placing.proofs.sizes.check_centres.Goals as goal

pub returns-then-not-is_even : goal.returns-then-not-is_even
returns-then-not-is_even g c h sized matched =
    let k = g.T.Length.kind in
    odd_centre (omega (arith, c.requires, c.loop-cell-test.true)) sized matched c.loop-cell.invariant (c.is_centred.ensures.0 c.if-is_centred.true)
    (not_at (Even k) c.is_even.result c.is_even.ensures (search (get_or_read, rules)) c.if-not-is_even.true)
