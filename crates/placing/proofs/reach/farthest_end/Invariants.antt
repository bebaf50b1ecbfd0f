use Rattle.std.proofs.Common.{◌≡◌, ℕ, ◌<◌, length, get_or, drop}
use Rattle.length.specs.Join.{IsJoin}
use Rattle.graph.specs.Heaviest.{dealt}
use Rattle.placing.proofs.Dealt.{Left}
use Rattle.placing.proofs.reach.farthest_end.Given as goal

abbrev pub invariant-loop-start : goal.invariant-loop-start
invariant-loop-start g l =
    let k = g.T.Length.kind in
    let u = length l.yielded in
    record {
      starts : l.start-iterator.a.rest.now ≡ drop u l.starts;
      round : l.start-iterator.b.orig.rest.now ≡ l.sizes;
      sizes : Left l.sizes u l.start-iterator.b.iter.rest.now;
      joined : IsJoin k (λ (v : ℕ). v < u) (λ (v : ℕ). k.plus (get_or l.starts v k.zero) (dealt k.zero l.sizes v)) l.end;
    }
