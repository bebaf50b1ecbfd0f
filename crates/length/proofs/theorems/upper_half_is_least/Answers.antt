use Rattle.std.proofs.Common.{◌≡◌, sym, subst, rules}
use Rattle.length.specs.Theorems.{UpperHalf}
use Rattle.length.proofs.Algebra.{upper_at_most}
use Rattle.length.proofs.theorems.upper_half_is_least.Goals as goal

pub returns : goal.returns
returns g c =
    let V = g.row.T.Denot in
    let k = g.T.Length.kind in
    let laws = g.met.T.Length.laws in
    let all : (d : V) → UpperHalf k d (k.upper d) = λ d. record { covers = laws.upper_above d; least = laws.upper_least d; within = upper_at_most laws d } in
    let same : (d h : V) → h ≡ k.upper d → UpperHalf k d h = λ d h e. subst (UpperHalf k d) (sym e) (all d) in
    record { theorem = all; value = search (rules, same) }
