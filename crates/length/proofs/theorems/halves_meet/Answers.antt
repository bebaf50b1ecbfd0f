use Rattle.std.proofs.Common.{ap, arith}
use Rattle.length.proofs.Algebra.{halves_meet_lem}
use Rattle.length.proofs.Answered.{cases_map}
use Rattle.length.proofs.theorems.halves_meet.Goals as goal

pub returns : goal.returns
returns g c =
    let k = g.T.Length.kind in
    let laws = g.met.T.Length.laws in
    let low = ap k.measure c.lower_half.ensures in
    let up = ap k.measure c.upper_half.ensures in
    record {
      theorem = halves_meet_lem laws;
      value = cases_map c.plus.result
          (λ over. omega arith)
          (λ x sum m e. let made = halves_meet_lem laws c.args.s c.args.t m e in let is = sum.1 in cc)
          c.plus.ensures;
    }
