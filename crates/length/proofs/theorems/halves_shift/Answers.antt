use Rattle.std.proofs.Common.{ap, rules}
use Rattle.length.proofs.Algebra.{lower_shift, upper_shift, lower_at_most_upper}
use Rattle.length.proofs.theorems.halves_shift.Goals as goal

pub returns-in_err-lower : goal.returns-in_err-lower
returns-in_err-lower g c =
    let k = g.T.Length.kind in
    let laws = g.met.T.Length.laws in
    let low = ap k.measure c.lower_half.ensures in
    let ordered = laws.measure_keeps _ _ (lower_at_most_upper laws c.args.s) in
    record {
      theorem = record { lower_shift = lower_shift laws; upper_shift = upper_shift laws };
      value = search rules;
    }

pub returns-in_err-upper : goal.returns-in_err-upper
returns-in_err-upper g c =
    let k = g.T.Length.kind in
    let laws = g.met.T.Length.laws in
    record {
      theorem = record { lower_shift = lower_shift laws; upper_shift = upper_shift laws };
      value = search rules;
    }

pub returns : goal.returns
returns g c =
    let laws = g.met.T.Length.laws in
    let low = lower_shift laws c.args.s c.args.w in
    let up = upper_shift laws c.args.s c.args.w in
    let low_sum = c.in_ok-lower.ensures.1 in
    let up-sum = c.in_ok-upper.ensures.1 in
    record {
      theorem = record { lower_shift = lower_shift laws; upper_shift = upper_shift laws };
      value = (cc, cc);
    }
