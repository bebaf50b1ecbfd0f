-- The numbers so far, and those that are left to read, make the whole list.
use Rattle.std.proofs.Common.{◌≡◌, ◌-◌, vec_items}
use Rattle.formats.specs.Rules.{fits}
use Rattle.formats.specs.Reading.{list, misordered, order_list_at}
use Rattle.reading.proofs.reader.Reader.order_list.Given as goal

abbrev pub invariant-loop : goal.invariant-loop
invariant-loop l =
    (l.self.bytes.now ≡ l.initial.self.bytes.now)
    × (order_list_at l.kind l.n l.list l.size l.initial.self.bytes.now l.initial.self.at ≡ list (fits l.kind l.n) (misordered l.list) (l.size - l.counter) (vec_items l.numbers) l.initial.self.bytes.now l.self.at)
