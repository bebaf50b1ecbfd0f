use Rattle.std.proofs.Common.{arith}
use Rattle.formats.specs.Reading.{entry_of}
use Rattle.writing.proofs.PutTogether.{puts_join, puts_place, puts_same, entries_more, entries_place, entry_storable}
use Rattle.writing.proofs.pen.Pen.entries.Goals as goal

pub overflow_cast-entry : goal.overflow_cast-entry
overflow_cast-entry c =
    omega (arith, (entry_storable c.args.entries.now c.loop-entry.entry-index (entry_of 0 0) c.requires.small c.loop-entry-test.true).0)

pub number-requires : goal.number-requires
number-requires c = omega (arith, entries_place c.args.entries.now c.loop-entry.entry-index c.loop-entry.invariant)

pub overflow_cast-entry-in-loop-entry : goal.overflow_cast-entry-in-loop-entry
overflow_cast-entry-in-loop-entry c =
    omega (arith, (entry_storable c.args.entries.now c.loop-entry.entry-index (entry_of 0 0) c.requires.small c.loop-entry-test.true).1)

pub number-requires-in-loop-entry : goal.number-requires-in-loop-entry
number-requires-in-loop-entry c =
    omega (arith, entries_place c.args.entries.now c.loop-entry.entry-index c.loop-entry.invariant, puts_place c.number.ensures)

pub loop-entry-preserved : goal.loop-entry-preserved
loop-entry-preserved c =
    puts_same
    (entries_more c.args.entries.now c.loop-entry.entry-index (entry_of 0 0) c.loop-entry-test.true)
    (puts_join c.loop-entry.invariant (puts_join c.number.ensures c.number-in-loop-entry.ensures))
