-- The steps so far came to the answers so far, from the sheet as it was made to the sheet as it is, which has as many
-- cells; and the answers have lists as long as those cells ask for.
use Rattle.std.proofs.Common.{◌≡◌, take, vec_items, All}
use Rattle.group.specs.Group.{sheet_of}
use Rattle.sheet.specs.Runs.{Ran, IsFilled}
use Rattle.sheet.proofs.runs.run.Given as goal

abbrev pub invariant-loop-step : goal.invariant-loop-step
invariant-loop-step g l = record {
  ran : Ran g.T.Length.kind (sheet_of (g.B.Book.order l.initial.sheet.book) l.initial.sheet.group) (take l.step-index l.steps) (vec_items l.answers) (sheet_of (g.B.Book.order l.sheet.book) l.sheet.group);
  counts : (g.B.Book.order l.sheet.book).count ≡ (g.B.Book.order l.initial.sheet.book).count;
  filled : All (IsFilled (g.B.Book.order l.initial.sheet.book).count) (vec_items l.answers);
}
