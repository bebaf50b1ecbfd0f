use Rattle.length.proofs.Algebra.{double_reflects, double_keeps}
use Rattle.length.proofs.theorems.doubling_reflects.Goals as goal

pub returns : goal.returns
returns g c =
    let laws = g.met.T.Length.laws in
    let asked = c.at_most.ensures in
    record {
      theorem = double_reflects laws;
      value = (λ yes. double_keeps laws _ _ (asked.0 yes), λ h. asked.1 (double_reflects laws _ _ h));
    }
