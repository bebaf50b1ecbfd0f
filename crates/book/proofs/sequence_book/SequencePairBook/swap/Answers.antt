-- Both tables have the two cells' places exchanged, so they stay lawful, and every relation has the two names exchanged.
use Rattle.std.proofs.Common.{refl}
use Rattle.book.proofs.Trade.{traded, traded_places}
use Rattle.book.proofs.Cells.{cells_in}
use Rattle.book.proofs.sequence_book.SequencePairBook.swap.Goals as goal

pub invariant_of-self : goal.invariant_of-self
invariant_of-self c =
    let s = c.args.self.now in
    let a = c.args.a in
    let b = c.args.b in
    let ok = cells_in s.count a b _ _ c.in_ok-within.ensures in
    let p = c.swap.ensures.by_index in
    let q = c.swap-2.ensures.by_index in
    let first = c.swap.new.self in
    let second = c.swap-2.new.self in
    record {
      some = s.some;
      few = s.few;
      first_row = traded_places s.first first a b p.0 p.1 p.2 s.count ok.a_in ok.b_in c.swap.ensures.len s.first_row;
      second_row = traded_places s.second second a b q.0 q.1 q.2 s.count ok.a_in ok.b_in c.swap-2.ensures.len s.second_row;
    }

pub returns-clause-meaning : goal.returns-clause-meaning
returns-clause-meaning c =
    let s = c.args.self.now in
    let a = c.args.a in
    let b = c.args.b in
    let p = c.swap.ensures.by_index in
    let q = c.swap-2.ensures.by_index in
    let first = traded s.first c.swap.new.self a b p.0 p.1 p.2 in
    let second = traded s.second c.swap-2.new.self a b q.0 q.1 q.2 in
    record { count = refl; each = λ x y _. simp (first x, first y, second x, second y) }
