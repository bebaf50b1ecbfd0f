use Rattle.std.proofs.Common.{ap, arith}
use Rattle.length.proofs.Algebra.{join_plus}
use Rattle.length.proofs.Answered.{cases_map}
use Rattle.length.proofs.theorems.join_distributes.Goals as goal

pub returns : goal.returns
returns g c =
    let k = g.T.Length.kind in
    let laws = g.met.T.Length.laws in
    let joined = ap k.measure c.join.ensures in
    record {
      theorem = join_plus laws;
      value = cases_map c.plus.result
          (λ over. omega arith)
          (λ s sum. let spread = join_plus laws c.args.a c.args.b c.args.c in let is = sum.1 in cc)
          c.plus.ensures;
    }
