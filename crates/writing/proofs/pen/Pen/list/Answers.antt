use Rattle.std.proofs.Common.{arith}
use Rattle.std.proofs.lemmas.List.{length-take}
use Rattle.writing.proofs.PutTogether.{puts_more, puts_place, storable_at}
use Rattle.writing.proofs.pen.Pen.list.Goals as goal

pub overflow_cast-number : goal.overflow_cast-number
overflow_cast-number c = omega (arith, storable_at c.args.numbers.now c.loop-number.number-index c.requires.small c.loop-number-test.true)

pub number-requires : goal.number-requires
number-requires c = omega (arith, puts_place c.loop-number.invariant, length-take c.loop-number.number-index c.args.numbers.now)

pub loop-number-preserved : goal.loop-number-preserved
loop-number-preserved c =
    puts_more c.args.numbers.now c.loop-number.number-index c.loop-number-test.true c.loop-number.invariant c.number.ensures
