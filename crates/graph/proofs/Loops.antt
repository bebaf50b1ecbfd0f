-- A graph whose paths from each node end has no loop, so that no path has more steps than there are nodes. Assumes nothing.
use Rattle.std.proofs.Common.{ℕ, zero, suc, ◌+◌, ◌<◌, ◌≤◌, List, [], ◌∷◌, ◌++◌, length, ⊎_elim, arith, length-append}
use native.Mathlib.Decide.{ℕ_discrete}
use Rattle.std.proofs.lemmas.Bool.{cases_lt}
use Rattle.placement.specs.Walks.{Path, Walk, Loop}
use Rattle.placement.proofs.Listings.{below, entry_below, length_below}
use Rattle.placement.proofs.Paths.{walk_then_path}
use Rattle.placement.proofs.Pigeonhole.{path_is_short}
use Rattle.graph.specs.declared.graph.Graph.{Graph}
use Rattle.graph.specs.Heaviest.{Short}
use Rattle.graph.specs.Steps.{Step}
use Rattle.graph.specs.Settling.{Reach}

-- round a loop as often as wanted
long_path : (g : Graph) (u : ℕ) (xs : List ℕ) → Walk (Step g) u xs u → (n : ℕ) → (us : List ℕ) × Path (Step g) u us × (n ≤ length us)
long_path g u xs walk zero = ([], tt, omega arith)
long_path g u xs walk (suc n) =
    let r = long_path g u xs walk n in
    let more : n ≤ length r.0 = r.2 in
    (xs ++ u ∷ r.0, walk_then_path (Step g) u xs u r.0 walk r.1, omega (arith, length-append xs (u ∷ r.0)))

walk_inside : (g : Graph) (u : ℕ) (xs : List ℕ) (w : ℕ) → Walk (Step g) u xs w → u < g.nodes
walk_inside g u [] w walk = walk.0
walk_inside g u (x ∷ xs) w walk = walk.0.0

module _ (g : Graph) (ends : (v : ℕ) → v < g.nodes → (n : ℕ) × Reach g v n) where
  no_loop : (us : List ℕ) → Loop (Step g) us → ⊥
  no_loop [] loop = loop
  no_loop (u ∷ xs) loop =
      let end = ends u (walk_inside g u xs u loop) in
      let r = long_path g u xs loop (end.0 + 1) in
      let long : end.0 + 1 ≤ length r.0 = r.2 in
      let short : length r.0 ≤ end.0 = end.1 r.0 r.1 in
      omega arith

  pub ends_short : Short g
  ends_short v us path = ⊎_elim
      (λ (low : v < g.nodes).
      let few : length (v ∷ us) ≤ length (below g.nodes) = path_is_short (Step g) ℕ_discrete (below g.nodes) (λ x y step. entry_below g.nodes y (g.within x y step.1)) no_loop v us (entry_below g.nodes v low) path in
      omega (arith, length_below g.nodes))
      (λ (high : g.nodes ≤ v). outside us path high)
      (cases_lt v g.nodes)
    where
      outside : (us : List ℕ) → Path (Step g) v us → g.nodes ≤ v → length us ≤ g.nodes
      outside [] p high = omega arith
      outside (x ∷ xs) p high = let low : v < g.nodes = p.0.0 in absurd (omega arith)
