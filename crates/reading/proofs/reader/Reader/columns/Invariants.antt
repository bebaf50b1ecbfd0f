-- The lengths so far, and those that are left to read, make them all.
use Rattle.std.proofs.Common.{◌≡◌, ◌-◌, map, length, vec_items}
use Rattle.formats.specs.Reading.{columns, no_columns}
use Rattle.reading.specs.Held.{rule_of}
use Rattle.reading.proofs.Turns.{both_columns}
use Rattle.reading.proofs.reader.Reader.columns.Given as goal

abbrev pub invariant-loop-cell : goal.invariant-loop-cell
invariant-loop-cell g l =
    (l.self.bytes.now ≡ l.initial.self.bytes.now)
    × (length (map g.T.Numbered.numbers (vec_items l.firsts)) ≡ l.cell)
    × (columns (rule_of l.allowed) g.T.Length.NUMBERS l.n no_columns l.initial.self.bytes.now l.initial.self.at ≡ columns (rule_of l.allowed) g.T.Length.NUMBERS (l.n - l.cell) (both_columns (map g.T.Numbered.numbers (vec_items l.firsts)) (map g.T.Numbered.numbers (vec_items l.seconds))) l.initial.self.bytes.now l.self.at)
