-- Paths of any relation: moved by a map, and gone on to from a walk.
use Rattle.std.proofs.Common.{List, [], ◌∷◌, ◌++◌, map}
use Rattle.placement.specs.Walks.{Path, Walk}

pub path_map : {C D : Type 0} (R : C → C → Type 0) (S : D → D → Type 0) (f : C → D) → ((u v : C) → R u v → S (f u) (f v)) → (u : C) (us : List C) → Path R u us → Path S (f u) (map f us)
path_map R S f move u [] path = tt
path_map R S f move u (x ∷ us) path = (move u x path.0, path_map R S f move x us path.1)

pub walk_then_path : {C : Type 0} (R : C → C → Type 0) (u : C) (us : List C) (v : C) (vs : List C) → Walk R u us v → Path R v vs → Path R u (us ++ v ∷ vs)
walk_then_path R u [] v vs walk path = (walk, path)
walk_then_path R u (x ∷ us) v vs walk path = (walk.0, walk_then_path R x us v vs walk.1 path)
