-- Each turn has the next start, and the next size that is dealt out.
use Rattle.std.proofs.Common.{◌≡◌, ℕ, ◌+◌, ◌<◌, length, get_or, sym, ap, ◌∙◌, subst, ap₂, arith}
use Rattle.std.proofs.lemmas.List.{length_push}
use Rattle.length.specs.Join.{IsJoin}
use Rattle.graph.specs.Heaviest.{dealt}
use Rattle.placing.proofs.JoinsBelow.{below_more}
use Rattle.placing.proofs.Dealt.{next_left, dealt_turn}
use Rattle.placing.proofs.reach.farthest_end.Goals as goal

pub returns-in_err-plus : goal.returns-in_err-plus
returns-in_err-plus g c =
    let k = g.T.Length.kind in
    let u : ℕ = length c.loop-start.yielded in
    let so = c.loop-start.invariant in
    let steps = c.in-Some.ensures.steps in
    let start = next_left k.zero c.args.starts.now u c.in-Some.start.now c.next.new.self.a.rest.now (sym steps.0 ∙ so.starts) in
    let size = dealt_turn k.zero c.args.sizes.now c.requires u c.loop-start.start-iterator.b.iter c.next.new.self.b.iter c.loop-start.start-iterator.b.orig c.in-Some.size so.round so.sizes steps.1.1.0 steps.1.1.1 steps.1.1.2 steps.1.1.3 in
    let both = ap₂ (λ x y. k.measure x + k.measure y) start.1 size.0 in
    rw c.from_residual.ensures (u, start.0, omega (arith, c.in_err-plus.ensures, both))

pub loop-start-preserved : goal.loop-start-preserved
loop-start-preserved g c =
    let V = g.row.T.Denot in
    let k = g.T.Length.kind in
    let u : ℕ = length c.loop-start.yielded in
    let so = c.loop-start.invariant in
    let steps = c.in-Some.ensures.steps in
    let starts = c.args.starts.now in
    let sizes = c.args.sizes.now in
    let start = next_left k.zero starts u c.in-Some.start.now c.next.new.self.a.rest.now (sym steps.0 ∙ so.starts) in
    let size = dealt_turn k.zero sizes c.requires u c.loop-start.start-iterator.b.iter c.next.new.self.b.iter c.loop-start.start-iterator.b.orig c.in-Some.size so.round so.sizes steps.1.1.0 steps.1.1.1 steps.1.1.2 steps.1.1.3 in
    let f : ℕ → V = λ v. k.plus (get_or starts v k.zero) (dealt k.zero sizes v) in
    let end : c.join-end.result ≡ k.join c.loop-start.end (f u) = c.join-end.ensures ∙ ap (k.join c.loop-start.end) (c.in_ok-plus.ensures.1 ∙ ap₂ k.plus start.1 size.0) in
    rw length_push (record {
      starts = start.2;
      round = ap (λ i. i.rest.now) steps.1.0 ∙ so.round;
      sizes = size.1;
      joined = subst (λ (t : V). IsJoin k (λ (v : ℕ). v < u + 1) f t) (sym end) (below_more g.met.T.Length.laws f u c.loop-start.end so.joined);
    })
