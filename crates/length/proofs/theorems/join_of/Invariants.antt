use Rattle.std.proofs.Common.{ℕ, ◌<◌, get_or}
use Rattle.length.specs.Join.{IsJoin}
use Rattle.length.proofs.theorems.join_of.Given as goal

abbrev pub invariant-loop-x : goal.invariant-loop-x
invariant-loop-x g l = let k = g.T.Length.kind in IsJoin k (λ (i : ℕ). i < l.x-index) (λ i. get_or l.lengths i k.zero) l.most
