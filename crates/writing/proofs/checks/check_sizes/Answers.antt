use Rattle.std.proofs.Common.{length, sym, ap, ◌∙◌, rules}
use Rattle.std.proofs.lemmas.List.{length_push}
use Rattle.std.proofs.lemmas.Iterator.{YieldsList-from_slice, YieldsList-from_zip}
use Rattle.std.proofs.lemmas.Iterator.Consumers.{YieldsList-from_enumerate, YieldsList-turn, YieldsList-end}
use Rattle.writing.proofs.Checking.{AtCell, at_cell, exit_tells, sizes_from, width_fails, height_fails, sizes_more, sizes_done}
use Rattle.writing.proofs.checks.check_sizes.Goals as goal
use Rattle.writing.proofs.checks.check_sizes.Goals.{In-Some}
use Rattle.writing.proofs.checks.check_sizes.Given.{Over}

-- which cell this turn is at
turn : (g : Over) (c : In-Some g) → AtCell c.args.widths.now c.args.heights.now (length c.loop-cell.yielded) c.in-Some.cell c.in-Some.width.now c.in-Some.height.now
turn g c =
    let ws = c.args.widths.now in
    let hs = c.args.heights.now in
    let all = YieldsList-from_enumerate (YieldsList-from_zip (YieldsList-from_slice ws cc) (YieldsList-from_slice hs cc)) cc in
    let t = YieldsList-turn all c.loop-cell.yielded _ c.loop-cell.yielded_by _ c.next.new.self _ c.in-Some.is c.next.ensures.steps in
    at_cell ws hs (length c.loop-cell.yielded) c.in-Some.cell c.in-Some.width.now c.in-Some.height.now t.0 t.1

pub returns-in_err-check_size : goal.returns-in_err-check_size
returns-in_err-check_size g c =
    let here = turn g (goal.at.returns-in_err-check_size g c).In-Some in
    let f = c.in_err-check_size.field-0.0 in
    exit_tells _ c.from_residual.result f c.from_residual.ensures.1 (width_fails g.T.Numbered.numbers c.args.widths.now c.args.heights.now _ c.loop-cell.invariant.so_far _ _ _ here f c.in_err-check_size.ensures)

pub returns-in_err-check_size-2 : goal.returns-in_err-check_size-2
returns-in_err-check_size-2 g c =
    let here = turn g (goal.at.returns-in_err-check_size-2 g c).In-Some in
    let f = c.in_err-check_size-2.field-0.0 in
    exit_tells _ c.from_residual-in_err-check_size-2.result f c.from_residual-in_err-check_size-2.ensures.1 (height_fails g.T.Numbered.numbers c.args.widths.now c.args.heights.now _ c.loop-cell.invariant.so_far _ _ _ here c.in_ok-check_size.ensures f c.in_err-check_size-2.ensures)

pub loop-cell-preserved : goal.loop-cell-preserved
loop-cell-preserved g c =
    let here = turn g (goal.at.loop-cell-preserved g c).In-Some in
    record {
      can_next = search rules;
      is_finite = search rules;
      so_far =
          sizes_more g.T.Numbered.numbers c.args.widths.now c.args.heights.now _ c.loop-cell.invariant.so_far _ _ _ here c.in_ok-check_size.ensures c.in_ok-check_size-2.ensures
          ∙ ap (sizes_from g.T.Numbered.numbers c.args.widths.now c.args.heights.now) (sym (length_push c.loop-cell.yielded (c.in-Some.cell, (c.in-Some.width, c.in-Some.height))));
    }

pub returns : goal.returns
returns g c =
    let ws = c.args.widths.now in
    let hs = c.args.heights.now in
    let all = YieldsList-from_enumerate (YieldsList-from_zip (YieldsList-from_slice ws cc) (YieldsList-from_slice hs cc)) cc in
    let t = YieldsList-end all c.loop-cell.yielded _ c.loop-cell.yielded_by _ c.next.new.self c.in-None.is c.next.ensures.steps in
    sym (sizes_done g.T.Numbered.numbers ws hs (length c.loop-cell.yielded) c.loop-cell.invariant.so_far t.1)
