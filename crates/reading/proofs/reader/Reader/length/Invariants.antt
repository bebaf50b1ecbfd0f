-- The numbers so far, and those that are left to read, make the whole length.
use Rattle.std.proofs.Common.{◌≡◌, ◌-◌, length, take}
use Rattle.formats.specs.Reading.{list, alone, not_a_size, one_length}
use Rattle.reading.specs.Held.{rule_of}
use Rattle.reading.proofs.reader.Reader.length.Given as goal

abbrev pub invariant-loop-number : goal.invariant-loop-number
invariant-loop-number g l =
    let rule = rule_of l.allowed in
    let file = l.initial.self.bytes.now in
    let numbers = g.T.Length.NUMBERS in record {
      same : l.self.bytes.now ≡ file;
      long : length l.number-items ≡ numbers;
      left : one_length rule numbers l.cell l.side file l.initial.self.at ≡ list (alone rule) (not_a_size l.cell l.side) (numbers - l.number-index) (take l.number-index l.number-items) file l.self.at;
    }
