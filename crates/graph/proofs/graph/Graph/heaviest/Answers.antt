-- At the end every node is done, so the join at each is known.
use Rattle.std.proofs.Common.{◌≡◌, get_or, sym, subst, ⊎_elim, arith, rules}
use Rattle.std.proofs.lemmas.Bool.{cases_eq}
use Rattle.graph.specs.Heaviest.{dealt, Bounded}
use Rattle.graph.proofs.Loops.{ends_short}
use Rattle.graph.proofs.Begins.{DoneAt, gone_on, gone_same, settled_on}
use Rattle.graph.proofs.Weights.{weighs_measure}
use Rattle.graph.proofs.graph.Graph.heaviest.Goals as goal
use Rattle.graph.proofs.graph.Graph.heaviest.Goals.{then-not-contains+in_ok-settle, else-not-contains}

pub returns-clause-short : goal.returns-clause-short
returns-clause-short g c =
    let walk = c.loop-v.walk in
    let known = settled_on _ walk c.loop-v.invariant.on c.loop-v.invariant.settled in
    ends_short c.args.self.now (λ v low. (known v (c.loop-v.invariant.below v (omega (arith, c.loop-v-test.false)))).ends)

pub returns-clause-finishes : goal.returns-clause-finishes
returns-clause-finishes g c = λ some long short small.
    let k = g.T.Length.kind in
    let graph = c.args.self.now in
    let walk = c.loop-v.walk in
    let out = walk.out.now in
    let known = settled_on _ walk c.loop-v.invariant.on c.loop-v.invariant.settled in
    let bounded : Bounded k graph (λ v. get_or out v k.zero) = λ v low.
    let done = known v (c.loop-v.invariant.below v (omega (arith, c.loop-v-test.false))) in
    weighs_measure g.met.T.Length.laws graph.nodes (get_or out v k.zero) (dealt k.zero c.args.weights.now v) (omega arith) (small v low) (done.light small graph.nodes (short v)) in
    search rules

pub loop-v-preserved : goal.loop-v-preserved
loop-v-preserved g c =
    let k = g.T.Length.kind in
    let so = c.loop-v.invariant in
    let v = c.loop-v.v in
    let walk = c.if-not-contains.walk in
    let next : DoneAt k c.loop-v.walk walk v = elim c.if-not-contains.branch [
      | then-not-contains+in_ok-settle w ↦ subst (λ x. DoneAt k c.loop-v.walk x v) (sym w.walk-is) (record { on = w.settle.ensures.on; settled = w.settle.ensures.after; there = w.in_ok-settle.ensures.reached })
      | else-not-contains w ↦ subst (λ x. DoneAt k c.loop-v.walk x v) (sym w.walk-is) (record { on = gone_same c.loop-v.walk; settled = so.settled; there = c.contains.ensures.0 w.if-not-contains.false })
    ] in
    record {
      on = gone_on _ c.loop-v.walk walk so.on next.on;
      settled = next.settled;
      below = λ u low. ⊎_elim (λ (e : u ≡ v). rw e next.there) (λ (ne : u ≡ v → ⊥). next.on.grown u (so.below u (omega arith))) (cases_eq u v);
    }
