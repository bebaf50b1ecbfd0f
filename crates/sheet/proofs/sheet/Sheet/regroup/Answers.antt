use Rattle.std.proofs.Common.{◌∙◌}
use Rattle.book.proofs.Exits.{exit_at}
use Rattle.group.proofs.LawfulSheet.{lawful_sheet}
use Rattle.sheet.specs.Edits.{Outcome}
use Rattle.sheet.proofs.Same.{same_refl}
use Rattle.sheet.proofs.Outcomes.{done_edit, undone_edit}
use Rattle.sheet.proofs.sheet.Sheet.regroup.Goals as goal

pub returns-in_err-judge : goal.returns-in_err-judge
returns-in_err-judge g c =
    let s = c.args.self.now in
    let o = g.B.Book.order s.book in
    let lawful = lawful_sheet o c.args.group (g.met.B.Book.lawful s.book) (c.requires ∙ s.sound.counts) in
    let judged = c.in_err-judge.ensures in
    λ e fit same.
    exit_at (Outcome o s.group e o s.group) c.from_residual.result _ c.from_residual.ensures.1
    (undone_edit judged.theorem fit same lawful judged.couple (same_refl _))

pub returns : goal.returns
returns g c =
    let s = c.args.self.now in
    let lawful = lawful_sheet (g.B.Book.order s.book) c.args.group (g.met.B.Book.lawful s.book) (c.requires ∙ s.sound.counts) in
    let judged = c.in_ok-judge.ensures in
    λ e fit same. done_edit judged.theorem fit same lawful judged.couple
