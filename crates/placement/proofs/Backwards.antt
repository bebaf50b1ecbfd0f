-- Paths backwards: a walk to a place, read from its end, is a path from there against the steps; totals stay.
use Rattle.std.proofs.Common.{◌≡◌, ◌+◌, List, [], ◌∷◌, reverse, length, sym, ap, ◌∙◌, arith}
use mathlib.Core.List.{reverse_aux}
use Rattle.length.specs.Kind.{Kind, Laws}
use Rattle.length.proofs.Algebra.{zero_plus}
use Rattle.placement.specs.Walks.{Path, Walk}
use Rattle.placement.specs.Downward.{total}

-- the steps of R, taken against their direction
abbrev pub Against : {C : Type 0} → (C → C → Type 0) → C → C → Type 0
Against R u v = R v u

-- a walk that ends at v, or nothing
abbrev pub WalkTo : {C : Type 0} → (C → C → Type 0) → C → List C → Type 0
WalkTo R v [] = Unit {0}
WalkTo R v (u ∷ us) = Walk R u us v

module _ {C : Type 0} (R : C → C → Type 0) where
  walk_backwards : (u : C) (us : List C) (v : C) (after : List C) → Walk R u us v → Path (Against R) u after → Path (Against R) v (reverse_aux us (u ∷ after))
  walk_backwards u [] v after h p = (h, p)
  walk_backwards u (x ∷ xs) v after h p = walk_backwards x xs v (u ∷ after) h.1 (h.0, p)

  path_backwards : (u : C) (us : List C) (before : List C) (v : C) → Path (Against R) u us → Walk R u before v → WalkTo R v (reverse_aux us (u ∷ before))
  path_backwards u [] before v p h = h
  path_backwards u (x ∷ xs) before v p h = path_backwards x xs (u ∷ before) v p.1 (p.0, h)

  pub walk_to_backwards : (v : C) (us : List C) → WalkTo R v us → Path (Against R) v (reverse us)
  walk_to_backwards v [] h = tt
  walk_to_backwards v (u ∷ us) h = walk_backwards u us v [] h tt

  pub path_from_backwards : (v : C) (us : List C) → Path (Against R) v us → WalkTo R v (reverse us)
  path_from_backwards v [] p = tt
  path_from_backwards v (u ∷ us) p = path_backwards u us [] v p.1 p.0

length_onto : {C : Type 0} (us vs : List C) → length (reverse_aux us vs) ≡ length us + length vs
length_onto [] vs = omega arith
length_onto (u ∷ us) vs = omega (arith, length_onto us (u ∷ vs))

pub length_backwards : {C : Type 0} (us : List C) → length (reverse us) ≡ length us
length_backwards us = omega (arith, length_onto us [])

module _ {V : Type 0} {k : Kind V} (laws : Laws k) {C : Type 0} (f : C → V) where
  total_onto : (us vs : List C) → total k f (reverse_aux us vs) ≡ k.plus (total k f us) (total k f vs)
  total_onto [] vs = sym (zero_plus laws _)
  total_onto (u ∷ us) vs =
      total_onto us (u ∷ vs)
      ∙ sym (laws.plus_assoc _ _ _)
      ∙ ap (λ (x : V). k.plus x (total k f vs)) (laws.plus_comm _ _)

  pub total_backwards : (us : List C) → total k f (reverse us) ≡ total k f us
  total_backwards us = total_onto us [] ∙ laws.plus_zero _
