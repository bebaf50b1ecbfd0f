-- Without a forbidden couple a descent has at most as many entries as there are cells.
use Rattle.std.proofs.Common.{ℕ, ◌≤◌, List, [], ◌∷◌, length, subst, arith}
use native.Mathlib.Decide.{ℕ_discrete}
use Rattle.placement.specs.Meaning.{Meaning, Lawful}
use Rattle.placement.specs.Couples.{Clean}
use Rattle.placement.specs.Downward.{Under, Descent}
use Rattle.placement.proofs.Listings.{cells, entry_cells, length_cells}
use Rattle.placement.proofs.Pigeonhole.{path_is_short}
use Rattle.placement.proofs.DownwardLoops.{under_to_cell, downward_loop_forbids_lem}

pub descent_is_short : (m : Meaning) → Lawful m → Clean m → (a : ℕ) (us : List ℕ) → Descent m a us → length us ≤ m.order.count
descent_is_short m lawful clean a [] p = omega arith
descent_is_short m lawful clean a (b ∷ us) p =
    subst (λ (n : ℕ). length (b ∷ us) ≤ n) (length_cells m)
    (path_is_short (Under m) ℕ_discrete (cells m) (λ u v h. entry_cells m v (under_to_cell h))
    (λ xs round. let r = downward_loop_forbids_lem m lawful xs round in clean r.0 r.1 r.2)
    b us (entry_cells m b (under_to_cell p.0)) p.1)
