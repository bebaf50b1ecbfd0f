use Rattle.std.proofs.Common.{◌≡◌, ℕ, Ok, Err, Result, sym, refl, ◌∙◌, subst}
use Rattle.refusal.specs.declared.fault.SheetFault.{SheetFault}
use Rattle.book.specs.Calls.{of_cells}
use Rattle.book.proofs.Cells.{cells_in}
use Rattle.book.proofs.Exits.{exit_at}
use Rattle.group.proofs.LawfulSheet.{lawful_sheet}
use Rattle.sheet.specs.Edits.{swap, Outcome, unfit}
use Rattle.sheet.proofs.Same.{same_refl}
use Rattle.sheet.proofs.Outcomes.{sound_there, done_edit, undone_edit}
use Rattle.sheet.proofs.SwapChecks.{outside, inside, same_cell_told, two_cells, swapped_back}
use Rattle.sheet.proofs.sheet.Sheet.swap.Goals as goal

pub returns-in_err-within : goal.returns-in_err-within
returns-in_err-within g c =
    let s = c.args.self.now in
    let a = c.args.a in
    let b = c.args.b in
    let o = g.B.Book.order s.book in
    let f = c.in_err-within.field-0.0 in
    exit_at (Outcome o s.group (swap a b) o s.group) c.from_residual.result f c.from_residual.ensures.1
    (unfit (outside o.count a b f _ (subst (λ (n : ℕ). ◌≡◌ {A = Result (Unit {0}) SheetFault} (Err f) (of_cells n a b (Ok tt))) c.count.ensures c.in_err-within.ensures)) (same_refl _))

pub returns-then-a-b : goal.returns-then-a-b
returns-then-a-b g c =
    let s = c.args.self.now in
    let a = c.args.a in
    let b = c.args.b in
    let o = g.B.Book.order s.book in
    let ok = subst (λ (n : ℕ). ◌≡◌ {A = Result (Unit {0}) SheetFault} (Ok tt) (of_cells n a b (Ok tt))) c.count.ensures c.in_ok-within.ensures in
    unfit (inside o.count a b _ ok ∙ same_cell_told a b c.if-a-b.true) (same_refl _)

pub invariant_of-self-in-Err : goal.invariant_of-self-in-Err
invariant_of-self-in-Err g c =
    let s = c.args.self.now in
    let a = c.args.a in
    let b = c.args.b in
    let o = g.B.Book.order s.book in
    let i = g.B.Book.order c.swap.new.self in
    let q = g.B.Book.order c.swap-in-Err.new.self in
    let ok = subst (λ (n : ℕ). ◌≡◌ {A = Result (Unit {0}) SheetFault} (Ok tt) (of_cells n a b (Ok tt))) c.count.ensures c.in_ok-within.ensures in
    let cells = cells_in o.count a b tt (Ok tt) ok in
    let back = swapped_back a b o i q _ cells.a_in cells.b_in c.in_ok-swap.ensures.meaning c.swap-in-Err.ensures.answer c.swap-in-Err.ensures.meaning in
    record { sound = sound_there {o = o} {q = q} (record { order = back; mate = λ x h. refl }) (s.sound.counts ∙ sym back.count) s.sound }

pub returns-in-Err : goal.returns-in-Err
returns-in-Err g c =
    let s = c.args.self.now in
    let a = c.args.a in
    let b = c.args.b in
    let o = g.B.Book.order s.book in
    let i = g.B.Book.order c.swap.new.self in
    let q = g.B.Book.order c.swap-in-Err.new.self in
    let ok = subst (λ (n : ℕ). ◌≡◌ {A = Result (Unit {0}) SheetFault} (Ok tt) (of_cells n a b (Ok tt))) c.count.ensures c.in_ok-within.ensures in
    let cells = cells_in o.count a b tt (Ok tt) ok in
    let moved = c.in_ok-swap.ensures.meaning in
    let judged = c.in-Err.ensures in
    undone_edit judged.theorem
    (inside o.count a b _ ok ∙ two_cells a b c.if-a-b.false)
    (record { order = moved; mate = λ x h. refl })
    (lawful_sheet i s.group (g.met.B.Book.lawful c.swap.new.self) (s.sound.counts ∙ sym moved.count))
    judged.couple
    (record { order = swapped_back a b o i q _ cells.a_in cells.b_in moved c.swap-in-Err.ensures.answer c.swap-in-Err.ensures.meaning; mate = λ x h. refl })

pub returns : goal.returns
returns g c =
    let s = c.args.self.now in
    let a = c.args.a in
    let b = c.args.b in
    let o = g.B.Book.order s.book in
    let i = g.B.Book.order c.swap.new.self in
    let ok = subst (λ (n : ℕ). ◌≡◌ {A = Result (Unit {0}) SheetFault} (Ok tt) (of_cells n a b (Ok tt))) c.count.ensures c.in_ok-within.ensures in
    let moved = c.in_ok-swap.ensures.meaning in
    let judged = c.in_default.ensures in
    done_edit judged.theorem
    (inside o.count a b _ ok ∙ two_cells a b c.if-a-b.false)
    (record { order = moved; mate = λ x h. refl })
    (lawful_sheet i s.group (g.met.B.Book.lawful c.swap.new.self) (s.sound.counts ∙ sym moved.count))
    judged.couple
