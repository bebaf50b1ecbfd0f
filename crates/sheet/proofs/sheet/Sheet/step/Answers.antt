-- Each edit keeps its own promise; a placing leaves the sheet alone.
use Rattle.std.proofs.Common.{sym, refl, subst, rules}
use Rattle.std.proofs.lemmas.Result.{IfOk-weaker}
use Rattle.sheet.specs.Edits.{swap, pair, centre, release}
use Rattle.group.specs.Group.{sheet_of}
use Rattle.sheet.specs.Runs.{Came, a_placing, PlacedAnew}
use Rattle.sheet.proofs.Running.{came_edit, edit_filled}
use Rattle.sheet.proofs.sheet.Sheet.step.Goals as goal
use Rattle.sheet.proofs.sheet.Sheet.step.Goals.{in-Swap, in-Pair, in-Centre, in-Release}

pub returns : goal.returns
returns g c = record {
  filled = edit_filled _ _ _ c.into.ensures;
  came = elim c.match-step.branch [
    | in-Swap w ↦ came_edit (swap w.in-Swap.a w.in-Swap.b) _ _ _ w.in-Swap.is c.into.ensures (rw (w.self-is, w.edited-is) w.swap-edited.ensures)
    -- the edit is found by its promise, and not named: a planted bug does another
    | in-Pair w ↦ came_edit (pair w.in-Pair.a w.in-Pair.b) _ _ _ w.in-Pair.is c.into.ensures (rw (w.self-is, w.edited-is) (search rules))
    | in-Centre w ↦ came_edit (centre w.in-Centre.a) _ _ _ w.in-Centre.is c.into.ensures (rw (w.self-is, w.edited-is) w.centre-edited.ensures)
    | in-Release w ↦ came_edit (release w.in-Release.a) _ _ _ w.in-Release.is c.into.ensures (rw (w.self-is, w.edited-is) w.release-edited.ensures)
  ];
}

pub returns-in-Place : goal.returns-in-Place
returns-in-Place g c = record {
  filled = c.place_anew.ensures.filled;
  came =
      let k = g.T.Length.kind in
      let m = sheet_of (g.B.Book.order c.args.self.now.book) c.args.self.now.group in
      IfOk-weaker c.place_anew.result (PlacedAnew k m c.in-Place.widths.now c.in-Place.heights.now) (λ a. Came k m m c.args.step a)
      (λ a p. subst (λ x. Came k m m x a) (sym c.in-Place.is) (a_placing p refl))
      c.place_anew.ensures.anew;
}
