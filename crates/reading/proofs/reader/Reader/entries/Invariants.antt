-- The entries so far, and those that are left to read, make them all.
use Rattle.std.proofs.Common.{◌≡◌, ◌-◌, [], vec_items}
use Rattle.formats.specs.Reading.{entries}
use Rattle.reading.proofs.reader.Reader.entries.Given as goal

abbrev pub invariant-loop : goal.invariant-loop
invariant-loop l =
    (l.self.bytes.now ≡ l.initial.self.bytes.now)
    × (entries l.n l.count [] l.initial.self.bytes.now l.initial.self.at ≡ entries l.n (l.count - l.counter) (vec_items l.entries) l.initial.self.bytes.now l.self.at)
