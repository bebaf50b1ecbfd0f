-- A fresh cell has room, since different cells below n are at most n; a join finds two parts.
use Rattle.std.proofs.Common.{◌≡◌, ◌+◌, ◌∷◌, refl, arith}
use Rattle.std.proofs.lemmas.Bool.Decides.{not_from_Decides}
use Rattle.book.specs.Slicing.{cell, beside, stacked, leaves, waits, joins, stacks}
use Rattle.book.specs.Waiting.{in_row, unknown, again, alone}
use Rattle.book.proofs.Standing.{once_push}
use Rattle.book.proofs.Holding.{parts_begin, found_waits, room_for_one, two_stackable, join_reads}
use Rattle.book.proofs.slicing.Waiting.read.Goals as goal
use Rattle.book.proofs.slicing.Waiting.read.Goals.{then-number-n-2-via-then-number-n-2, then-number-n-2-via-else-number-n-2+then-len-lt-JOINED}

pub returns-then-contains : goal.returns-then-contains
returns-then-contains c ps h once =
    let s = (found_waits c.args.number ps c.args.self.now c.deref.result.now c.contains.result h c.deref.ensures.0 c.contains.ensures.cases).0 c.if-contains.true in
    (again s.0 s.1 s.2, refl)

pub push-requires : goal.push-requires
push-requires c =
    let w = c.args.self.now in
    let h = c.requires.held in
    let fresh = not_from_Decides _ (found_waits c.args.number h.0 w c.deref.result.now c.contains.result h.1 c.deref.ensures.0 c.contains.ensures.cases) c.if-contains.false in
    room_for_one c.args.n c.args.number h.0 w c.requires.few h.1 (once_push c.args.n (in_row leaves h.0) c.args.number h.2 c.if-number-n.true fresh)

pub returns-then-number-n : goal.returns-then-number-n
returns-then-number-n c ps h once =
    let fresh = not_from_Decides _ (found_waits c.args.number ps c.args.self.now c.deref.result.now c.contains.result h c.deref.ensures.0 c.contains.ensures.cases) c.if-contains.false in
    (cell c.args.number ∷ ps, waits c.if-number-n.true, c.push.ensures ps h, once_push c.args.n (in_row leaves ps) c.args.number once c.if-number-n.true fresh)

pub returns-then-number-n-2 : goal.returns-then-number-n-2
returns-then-number-n-2 c ps h once =
    let parts = parts_begin ps c.args.self.now h in
    elim c.then-number-n-2.branch [
      | then-number-n-2-via-then-number-n-2 w ↦ (unknown w.if-number-n-2.true, refl)
      | then-number-n-2-via-else-number-n-2+then-len-lt-JOINED w ↦ (alone c.if-number-n.false (omega arith), refl)
    ]

pub stack-requires : goal.stack-requires
stack-requires c = let h = c.requires.held in two_stackable h.0 c.args.self.now h.1 (omega arith)

pub returns-then-number-n-3 : goal.returns-then-number-n-3
returns-then-number-n-3 c =
    join_reads c.args.n c.args.number beside (λ p q. refl) (λ p q ps. joins c.if-number-n-3.true) c.args.self.now c.join.new.self (omega arith) c.join.ensures

pub returns-else-number-n-3 : goal.returns-else-number-n-3
returns-else-number-n-3 c =
    let top : c.args.number ≡ c.args.n + 1 = omega arith in
    join_reads c.args.n c.args.number stacked (λ p q. refl) (λ p q ps. stacks top) c.args.self.now c.stack.new.self (omega arith) c.stack.ensures
