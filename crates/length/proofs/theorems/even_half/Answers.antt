use Rattle.std.proofs.lemmas.Bool.{both_ways}
use Rattle.length.proofs.Algebra.{even_double, double_even}
use Rattle.length.proofs.theorems.even_half.Goals as goal

pub returns-then-not-is_even : goal.returns-then-not-is_even
returns-then-not-is_even g c =
    let laws = g.met.T.Length.laws in
    record {
      theorem = record { even_double = even_double laws; double_even = double_even laws };
      value = λ h e. both_ways c.is_even.result c.if-not-is_even.true (c.is_even.ensures.1 (double_even laws c.args.a h e));
    }

pub returns : goal.returns
returns g c =
    let laws = g.met.T.Length.laws in
    let twice = even_double laws c.args.a (c.is_even.ensures.0 c.if-not-is_even.false) in
    record {
      theorem = record { even_double = even_double laws; double_even = double_even laws };
      value = cc;
    }
