-- Each refusal by the tests before it.
use Rattle.std.proofs.Common.{arith}
use Rattle.placing.specs.Sizes.{widths_length, heights_length, work_length, x_length, y_length}
use Rattle.placing.proofs.sizes.check_lists.Goals as goal

pub returns-then-widths-n : goal.returns-then-widths-n
returns-then-widths-n c = widths_length (λ e. omega arith)

pub returns-then-heights-n : goal.returns-then-heights-n
returns-then-heights-n c = heights_length (omega arith) (λ e. omega arith)

pub returns-then-work-n : goal.returns-then-work-n
returns-then-work-n c =
    work_length (omega arith) (omega arith)
    (λ e. elim c.then-work-n.branch [
      | goal.then-work-n-via-then-work-n w ↦ omega (arith, e, w.if-work-n.true)
      | goal.then-work-n-via-else-work-n+then-work-n-2 w ↦ omega (arith, e, w.if-work-n.false, w.if-work-n-2.true)
    ])

pub returns-then-x-n : goal.returns-then-x-n
returns-then-x-n c = x_length (omega arith) (omega arith) (omega arith) (λ e. omega arith)

pub returns-then-y-n : goal.returns-then-y-n
returns-then-y-n c = y_length (omega arith) (omega arith) (omega arith) (omega arith) (λ e. omega arith)
