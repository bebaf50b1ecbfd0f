-- Totals over lists that are joined.
use Rattle.std.proofs.Common.{◌≡◌, List, [], ◌∷◌, ◌++◌, sym, ap, ◌∙◌}
use Rattle.length.specs.Kind.{Kind, Laws}
use Rattle.length.proofs.Algebra.{zero_plus}
use Rattle.placement.specs.Downward.{total}

module _ {V : Type 0} {k : Kind V} (laws : Laws k) {I : Type 0} (f : I → V) where
  pub total-append : (us vs : List I) → total k f (us ++ vs) ≡ k.plus (total k f us) (total k f vs)
  total-append [] vs = sym (zero_plus laws (total k f vs))
  total-append (u ∷ us) vs = ap (k.plus (f u)) (total-append us vs) ∙ sym (laws.plus_assoc _ _ _)

  pub total_more : (us : List I) (u : I) → total k f (us ++ u ∷ []) ≡ k.plus (total k f us) (f u)
  total_more us u = total-append us (u ∷ []) ∙ ap (k.plus (total k f us)) (laws.plus_zero (f u))
