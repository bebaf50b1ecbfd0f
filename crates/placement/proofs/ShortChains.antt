-- Without a forbidden couple a chain has at most twice as many entries as there are cells: there are no more nodes.
use Rattle.std.proofs.Common.{◌≡◌, ℕ, ◌*◌, ◌≤◌, List, [], ◌∷◌, ◌++◌, map, length, ap, subst, arith, length-append}
use native.Mathlib.Decide.{ℕ_discrete}
use lib.ListN.{length-map}
use Rattle.placement.specs.Meaning.{Meaning, Lawful}
use Rattle.placement.specs.Couples.{Clean}
use Rattle.placement.specs.Across.{Node, cell, image, IsNode, Precedes, Chain}
use Rattle.placement.proofs.Entries.{Entry, entry_map, entry_front, entry_back}
use Rattle.placement.proofs.Listings.{cells, entry_cells, length_cells}
use Rattle.placement.proofs.Pigeonhole.{path_is_short}
use Rattle.placement.proofs.Images.{second_is_node}
use Rattle.placement.proofs.AcrossLoops.{loop_across_forbids_lem}

-- the nodes, listed
abbrev pub nodes : Meaning → List Node
nodes m = map cell (cells m) ++ map image (cells m)

pub entry_nodes : (m : Meaning) (u : Node) → IsNode m u → Entry u (nodes m)
entry_nodes m (cell a) h = entry_front (cell a) (map cell (cells m)) (map image (cells m)) (entry_map cell a (cells m) (entry_cells m a h))
entry_nodes m (image a) h = entry_back (image a) (map cell (cells m)) (map image (cells m)) (entry_map image a (cells m) (entry_cells m a h.cell))

pub length_nodes : (m : Meaning) → length (nodes m) ≡ 2 * m.order.count
length_nodes m =
    omega (arith, length-append (map cell (cells m)) (map image (cells m)), length-map (cells m) cell, length-map (cells m) image, length_cells m)

pub node_equal? : (u v : Node) → Dec (u ≡ v)
node_equal? (cell a) (cell b) = elim (ℕ_discrete a b) [ yes e ↦ yes (ap cell e) | no ne ↦ no (λ e. ne (cc)) ]
node_equal? (image a) (image b) = elim (ℕ_discrete a b) [ yes e ↦ yes (ap image e) | no ne ↦ no (λ e. ne (cc)) ]
node_equal? (cell a) (image b) = no (λ e. let z : ◌≡◌ {A = ℕ} 0 1 = cc in omega arith)
node_equal? (image a) (cell b) = no (λ e. let z : ◌≡◌ {A = ℕ} 0 1 = cc in omega arith)

pub chain_is_short : (m : Meaning) → Lawful m → Clean m → (us : List Node) → Chain m us → length us ≤ 2 * m.order.count
chain_is_short m lawful clean [] p = omega arith
chain_is_short m lawful clean (u ∷ us) p =
    subst (λ (n : ℕ). length (u ∷ us) ≤ n) (length_nodes m)
    (path_is_short (Precedes m) node_equal? (nodes m) (λ u v h. entry_nodes m v (second_is_node lawful h))
    (λ xs round. let r = loop_across_forbids_lem m lawful xs round in clean r.0 r.1 r.2)
    u us (entry_nodes m u p.0) p.1)
