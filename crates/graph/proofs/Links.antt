-- The next nodes of a graph without steps, and of one with a step more. Assumes nothing.
use Rattle.std.proofs.Common.{◌≡◌, ℕ, zero, suc, ◌%◌, ◌^◌, get_or, replicate, sym, ap, ◌∙◌, arith}
use native.Mathlib.Nat.{zero-div}
use Rattle.graph.specs.declared.node_set.NodeSet.{NodeSet}
use Rattle.graph.specs.Nodes.{Has, none}

none_has : (u : ℕ) → Has none u → ⊥
none_has u h = let z : ◌≡◌ {A = ℕ} 0 1 = sym (ap (λ x. x % 2) (zero-div (2 ^ u))) ∙ h in omega arith

-- nothing comes next where each entry is a set of none
pub none_next : (s : NodeSet) → ((u : ℕ) → Has s u → ⊥) → (n v u : ℕ) → Has (get_or (replicate n s) v none) u → ⊥
none_next s bare zero v u h = none_has u h
none_next s bare (suc n) zero u h = bare u h
none_next s bare (suc n) (suc v) u h = none_next s bare n v u h
