use Rattle.std.proofs.Common.{ℕ, [], vec_items, All, sym, refl, ◌∙◌, subst}
use Rattle.std.proofs.lemmas.List.Elements.{All-push, All-nil}
use Rattle.group.specs.Group.{sheet_of}
use Rattle.sheet.specs.Runs.{Ran, end, IsFilled}
use Rattle.sheet.proofs.Running.{ran_next, ran_all, came_count}
use Rattle.sheet.proofs.runs.run.Goals as goal

pub loop-step-init : goal.loop-step-init
loop-step-init g c =
    let m = sheet_of (g.B.Book.order c.new-sheet.result.book) c.new-sheet.result.group in
    record {
      ran = subst (λ answers. Ran g.T.Length.kind m [] answers m) (sym c.new-answers.ensures.items) end;
      counts = refl;
      filled = subst (All (IsFilled m.order.count)) (sym c.new-answers.ensures.items) (All-nil (IsFilled m.order.count));
    }

pub loop-step-preserved : goal.loop-step-preserved
loop-step-preserved g c =
    let before = c.loop-step.invariant in
    let told = c.in_ok-answer.ensures in
    let came = told.came in
    let n = (g.B.Book.order c.new-sheet.result.book).count in
    record {
      ran = ran_next c.args.steps.now c.loop-step.step-index c.step-item.result c.in_ok-answer.answer (vec_items c.loop-step.answers) (vec_items c.push.new.self) c.loop-step-test.true c.step-item.is c.in_ok-push.ensures.items before.ran came;
      counts = came_count came ∙ before.counts;
      filled = subst (All (IsFilled n)) (sym c.in_ok-push.ensures.items)
          (All-push (IsFilled n) (vec_items c.loop-step.answers) c.in_ok-answer.answer before.filled (subst (λ (k : ℕ). IsFilled k c.in_ok-answer.answer) before.counts told.filled));
    }

pub returns : goal.returns
returns g c =
    let last = c.loop-step.invariant in
    record {
      whole = record {
        start = sheet_of (g.B.Book.order c.new-sheet.result.book) c.new-sheet.result.group;
        last = sheet_of (g.B.Book.order c.loop-step.sheet.book) c.loop-step.sheet.group;
        starts = c.new-sheet.ensures.fresh;
        ran = ran_all c.args.steps.now c.loop-step.step-index c.loop-step-test.false last.ran;
      };
      filled = subst (λ (k : ℕ). All (IsFilled k) (vec_items c.loop-step.answers)) c.new-sheet.ensures.fresh.order.count last.filled;
    }
