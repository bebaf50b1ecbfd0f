-- A next node's join comes with the node; what is known of the paths begun grows by it, and at the last is known of all.
use Rattle.std.proofs.Common.{◌+◌, ◌<◌, sym, ap, ◌∙◌, subst, ap₂, arith}
use Rattle.std.proofs.lemmas.Bool.{false≢true}
use Rattle.std.proofs.lemmas.List.{get_or_default}
use Rattle.graph.specs.Heaviest.{dealt}
use Rattle.graph.specs.Settling.{SettledIn}
use Rattle.graph.proofs.Begins.{Underway, DoneAt, gone_on, gone_same, taken_inside, reach_next, begun_all, underway_more, sum_fits, settled_more}
use Rattle.graph.proofs.paths.Walk.+settle.Goals as goal
use Rattle.graph.proofs.paths.Walk.+settle.Goals.{then-not-contains+in_ok-checked_sub+in_ok-settle, else-not-contains}

pub returns-in_err-checked_sub-clause-finishes : goal.returns-in_err-checked_sub-clause-finishes
returns-in_err-checked_sub-clause-finishes g t c = λ small reach.
    let step = c.loop-u.invariant.steps c.in-Some.u c.in-Some.ensures.member in
    absurd (c.in_err-checked_sub.ensures (reach_next c.args.self.now.graph.now c.args.v c.in-Some.u c.args.fuel step reach).0)

pub settle-requires : goal.settle-requires
settle-requires g t c κs within =
    let way = c.loop-u.invariant in
    let low = taken_inside c.args.self.now.graph.now c.args.v c.in-Some.u way.steps c.in-Some.ensures in
    let less = c.in_ok-checked_sub.ensures in
    (omega (arith, c.decreases, less), (within, (rw way.on.graph low, (omega (arith, c.requires.few, less), way.settled))))

pub returns-in_err-settle-clause-finishes : goal.returns-in_err-settle-clause-finishes
returns-in_err-settle-clause-finishes g t c = λ small reach.
    let on = c.loop-u.invariant.on in
    let step = c.loop-u.invariant.steps c.in-Some.u c.in-Some.ensures.member in
    let next = reach_next c.args.self.now.graph.now c.args.v c.in-Some.u c.args.fuel step reach in
    let finishes = rw (on.graph, on.weights) at c.in_err-settle.ensures.finishes in
    absurd (false≢true (finishes small (rw c.in_ok-checked_sub.ensures.1 next.1)))

pub returns-in_err-plus-clause-finishes : goal.returns-in_err-plus-clause-finishes
returns-in_err-plus-clause-finishes g t c = λ small reach.
    let k = g.T.Length.kind in
    let walk = c.if-not-contains.self in
    let u = c.in-Some.u in
    let next : DoneAt k c.loop-u.self walk u = elim c.if-not-contains.branch [
      | then-not-contains+in_ok-checked_sub+in_ok-settle w ↦ subst (λ x. DoneAt k c.loop-u.self x u) (sym w.self-is) (record { on = w.settle.ensures.on; settled = w.settle.ensures.after; there = w.in_ok-settle.ensures.reached })
      | else-not-contains w ↦ subst (λ x. DoneAt k c.loop-u.self x u) (sym w.self-is) (record { on = gone_same c.loop-u.self; settled = c.loop-u.invariant.settled; there = c.contains.ensures.0 w.if-not-contains.false })
    ] in
    let walk_on = gone_on c.args.self.now c.loop-u.self walk c.loop-u.invariant.on next.on in
    let fits = sum_fits g.met.T.Length.laws c.args.self.now c.loop-u.self walk c.args.v u c.loop-u.left c.take_first.new.self c.loop-u.most c.loop-u.invariant c.in-Some.ensures next c.args.fuel c.requires.few small reach in
    let low : u < walk.graph.now.nodes = rw walk_on.graph (taken_inside c.args.self.now.graph.now c.args.v u c.loop-u.invariant.steps c.in-Some.ensures) in
    let both = ap₂ (λ x y. k.measure x + k.measure y) (get_or_default walk.out.now u c.index-self-u.result k.zero (omega (arith, walk.long))) c.weight.ensures in
    absurd (omega (arith, c.in_err-plus.ensures, both, fits))

pub returns-in_err-plus-clause-after : goal.returns-in_err-plus-clause-after
returns-in_err-plus-clause-after g t c =
    let k = g.T.Length.kind in
    elim c.if-not-contains.branch [
      | then-not-contains+in_ok-checked_sub+in_ok-settle w ↦ subst (SettledIn k) (sym w.self-is) w.settle.ensures.after
      | else-not-contains w ↦ subst (SettledIn k) (sym w.self-is) c.loop-u.invariant.settled
    ]

pub loop-u-preserved : goal.loop-u-preserved
loop-u-preserved g t c =
    let k = g.T.Length.kind in
    let walk = c.if-not-contains.self in
    let u = c.in-Some.u in
    let next : DoneAt k c.loop-u.self walk u = elim c.if-not-contains.branch [
      | then-not-contains+in_ok-checked_sub+in_ok-settle w ↦ subst (λ x. DoneAt k c.loop-u.self x u) (sym w.self-is) (record { on = w.settle.ensures.on; settled = w.settle.ensures.after; there = w.in_ok-settle.ensures.reached })
      | else-not-contains w ↦ subst (λ x. DoneAt k c.loop-u.self x u) (sym w.self-is) (record { on = gone_same c.loop-u.self; settled = c.loop-u.invariant.settled; there = c.contains.ensures.0 w.if-not-contains.false })
    ] in
    let walk_on = gone_on c.args.self.now c.loop-u.self walk c.loop-u.invariant.on next.on in
    let more = underway_more g.met.T.Length.laws c.args.self.now c.loop-u.self walk c.args.v u c.loop-u.left c.take_first.new.self c.loop-u.most c.loop-u.invariant c.in-Some.ensures next in
    let low : u < walk.graph.now.nodes = rw walk_on.graph (taken_inside c.args.self.now.graph.now c.args.v u c.loop-u.invariant.steps c.in-Some.ensures) in
    let here = get_or_default walk.out.now u c.index-self-u.result k.zero (omega (arith, walk.long)) in
    let joined = c.join-most.ensures ∙ ap (k.join c.loop-u.most) (c.in_ok-plus.ensures.1 ∙ ap₂ k.plus here c.weight.ensures) in
    subst (λ x. Underway k c.args.self.now walk c.args.v c.take_first.new.self x) (sym joined) more

pub returns-clause-after : goal.returns-clause-after
returns-clause-after g t c =
    let k = g.T.Length.kind in
    let laws = g.met.T.Length.laws in
    let walk = c.loop-u.self in
    let graph = walk.graph.now in
    let weight = dealt k.zero walk.weights.now in
    let way = c.loop-u.invariant in
    let inside : c.args.v < graph.nodes = rw way.on.graph c.requires.inside in
    let known = begun_all laws c.args.self.now.graph.now (dealt k.zero c.args.self.now.weights.now) c.args.v c.loop-u.left c.loop-u.most c.in_default.ensures.nothing way.begun in
    settled_more laws graph weight walk.done c.insert.new.self walk.out.now c.args.v c.loop-u.most (omega (arith, walk.long)) c.insert.ensures (rw (way.on.graph, way.on.weights) known) way.settled
