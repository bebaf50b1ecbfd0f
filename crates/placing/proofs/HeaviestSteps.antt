-- Joins over all paths: other words for the same steps, and what one step adds.
use Rattle.std.proofs.Common.{List, [], ◌∷◌}
use Rattle.length.specs.Kind.{Kind, Laws}
use Rattle.length.specs.Join.{IsJoin}
use Rattle.length.proofs.Joins.{join_shift}
use Rattle.placement.specs.Walks.{Path}
use Rattle.placement.specs.Downward.{total}

pub path_same : {C : Type 0} (R S : C → C → Type 0) → ((v u : C) → R v u → S v u) → (v : C) (us : List C) → Path R v us → Path S v us
path_same R S change v [] path = tt
path_same R S change v (u ∷ us) path = (change v u path.0, path_same R S change u us path.1)

-- what a step leads to weighs, with the heaviest path from there, at most the heaviest path from before the step
pub step_weighs : {V : Type 0} {k : Kind V} (laws : Laws k) {C : Type 0} (f : C → V) (R : C → C → Type 0) (v u : C) (s t : V) → R v u → IsJoin k (Path R u) (total k f) s → IsJoin k (Path R v) (total k f) t → k.at_most (k.plus s (f u)) t
step_weighs {k = k} laws f R v u s t step from_u from_v =
    (join_shift laws (total k f) s (f u) [] tt from_u).least t
    (λ us path. rw (laws.plus_comm (total k f us) (f u)) (from_v.above (u ∷ us) (step, path)))
