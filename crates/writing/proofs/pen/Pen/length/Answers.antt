use Rattle.writing.proofs.PutTogether.{puts_more}
use Rattle.std.proofs.Common.{take}
use Rattle.writing.proofs.pen.Pen.length.Goals as goal

pub loop-number-preserved : goal.loop-number-preserved
loop-number-preserved g c =
    puts_more (take c.NUMBERS.result c.to_numbers-numbers.result) c.loop-number.number-index c.loop-number-test.true c.loop-number.invariant c.number.ensures
