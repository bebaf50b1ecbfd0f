-- The first length that is no size: of one cell the height comes after the width.
use Rattle.std.proofs.Common.{ℕ, length, subst, arith, below_more}
use Rattle.std.proofs.lemmas.List.{length_push}
use Rattle.std.proofs.lemmas.Iterator.{YieldsList-from_slice, YieldsList-from_zip}
use Rattle.std.proofs.lemmas.Iterator.Consumers.{YieldsList-turn, YieldsList-from_enumerate}
use Rattle.placing.specs.Sizes.{entries, Sized, no_width, no_height}
use Rattle.placing.proofs.LawfulSizes.{so_at, not_at}
use Rattle.placing.proofs.InStep.{in_step}
use Rattle.placing.proofs.sizes.check_each.Goals as goal

pub returns-then-not-is_size : goal.returns-then-not-is_size
returns-then-not-is_size g c mate =
    let k = g.T.Length.kind in
    let widths = c.args.widths.now in
    let heights = c.args.heights.now in
    let here = in_step widths heights k.zero _ _ _ _ c.requires (YieldsList-turn {s = c.into_iter-cell-iterator.result} (YieldsList-from_enumerate (YieldsList-from_zip (YieldsList-from_slice widths cc) (YieldsList-from_slice heights cc)) (cc)) c.loop-cell.yielded _ c.loop-cell.yielded_by _ c.next.new.self (c.in-Some.cell, (c.in-Some.width, c.in-Some.height)) c.in-Some.is c.next.ensures.steps) in
    no_width here.inside (λ b low. c.loop-cell.invariant b (omega (arith, low, here.number)))
    (not_at k.size c.is_size.result c.is_size.ensures here.first c.if-not-is_size.true)

pub returns-then-not-is_size-2 : goal.returns-then-not-is_size-2
returns-then-not-is_size-2 g c mate =
    let k = g.T.Length.kind in
    let widths = c.args.widths.now in
    let heights = c.args.heights.now in
    let here = in_step widths heights k.zero _ _ _ _ c.requires (YieldsList-turn {s = c.into_iter-cell-iterator.result} (YieldsList-from_enumerate (YieldsList-from_zip (YieldsList-from_slice widths cc) (YieldsList-from_slice heights cc)) (cc)) c.loop-cell.yielded _ c.loop-cell.yielded_by _ c.next.new.self (c.in-Some.cell, (c.in-Some.width, c.in-Some.height)) c.in-Some.is c.next.ensures.steps) in
    no_height here.inside (λ b low. c.loop-cell.invariant b (omega (arith, low, here.number)))
    (so_at k.size c.is_size.result c.is_size.ensures here.first c.if-not-is_size.false)
    (not_at k.size c.is_size-in-loop-cell.result c.is_size-in-loop-cell.ensures here.second c.if-not-is_size-2.true)

pub loop-cell-preserved : goal.loop-cell-preserved
loop-cell-preserved g c =
    let k = g.T.Length.kind in
    let widths = c.args.widths.now in
    let heights = c.args.heights.now in
    let here = in_step widths heights k.zero _ _ _ _ c.requires (YieldsList-turn {s = c.into_iter-cell-iterator.result} (YieldsList-from_enumerate (YieldsList-from_zip (YieldsList-from_slice widths cc) (YieldsList-from_slice heights cc)) (cc)) c.loop-cell.yielded _ c.loop-cell.yielded_by _ c.next.new.self (c.in-Some.cell, (c.in-Some.width, c.in-Some.height)) c.in-Some.is c.next.ensures.steps) in
    let P : ℕ → Type 0 = Sized k (entries k widths) (entries k heights) in
    let sized : P c.in-Some.cell = record {
      wide = so_at k.size c.is_size.result c.is_size.ensures here.first c.if-not-is_size.false;
      high = so_at k.size c.is_size-in-loop-cell.result c.is_size-in-loop-cell.ensures here.second c.if-not-is_size-2.false;
    } in
    λ b low. below_more P (length c.loop-cell.yielded) c.loop-cell.invariant (subst P here.number sized) b
    (omega (arith, low, length_push c.loop-cell.yielded (c.in-Some.cell, (c.in-Some.width, c.in-Some.height))))
