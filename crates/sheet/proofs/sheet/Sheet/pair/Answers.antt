use Rattle.std.proofs.Common.{ℕ}
use Rattle.group.specs.Group.{mate_of}
use Rattle.group.specs.Edits.{pair_check}
use Rattle.book.proofs.Exits.{exit_at}
use Rattle.sheet.specs.Edits.{pair, Outcome, unfit}
use Rattle.sheet.proofs.Same.{same_refl}
use Rattle.sheet.proofs.Outcomes.{of_sheet}
use Rattle.sheet.proofs.sheet.Sheet.pair.Goals as goal

pub returns-in_err-pair : goal.returns-in_err-pair
returns-in_err-pair g c =
    let s = c.args.self.now in
    let o = g.B.Book.order s.book in
    exit_at (Outcome o s.group (pair c.args.a c.args.b) o s.group) c.from_residual.result _ c.from_residual.ensures.1
    (unfit (of_sheet s.sound (λ (n : ℕ). pair_check n (mate_of s.group) c.args.a c.args.b) c.in_err-pair.ensures.answer) (same_refl _))
