use Rattle.std.proofs.Common.{ℕ}
use Rattle.group.specs.Group.{mate_of}
use Rattle.group.specs.Edits.{centre_check}
use Rattle.book.proofs.Exits.{exit_at}
use Rattle.sheet.specs.Edits.{centre, Outcome, unfit}
use Rattle.sheet.proofs.Same.{same_refl}
use Rattle.sheet.proofs.Outcomes.{of_sheet}
use Rattle.sheet.proofs.sheet.Sheet.centre.Goals as goal

pub returns-in_err-centre : goal.returns-in_err-centre
returns-in_err-centre g c =
    let s = c.args.self.now in
    let o = g.B.Book.order s.book in
    exit_at (Outcome o s.group (centre c.args.a) o s.group) c.from_residual.result _ c.from_residual.ensures.1
    (unfit (of_sheet s.sound (λ (n : ℕ). centre_check n (mate_of s.group) c.args.a) c.in_err-centre.ensures.answer) (same_refl _))
