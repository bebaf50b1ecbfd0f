-- Joins over the numbers below a bound: the join of values of small measure has a small measure.
use Rattle.std.proofs.Common.{◌≡◌, ℕ, zero, suc, ◌+◌, ◌<◌, ◌≤◌, subst, inl, inr, ⊎_elim, arith}
use Rattle.std.proofs.lemmas.Bool.{cases_eq}
use Rattle.length.specs.Kind.{Kind, Laws}
use Rattle.length.specs.Join.{IsJoin}
use Rattle.length.proofs.Joins.{join_only, join_same, join_empty, join_with}

module _ {V : Type 0} {k : Kind V} (laws : Laws k) (f : ℕ → V) where
  pub below_none : IsJoin k (λ (u : ℕ). u < 0) f k.zero
  below_none = join_empty laws (λ u low. omega arith)

  pub below_more : (i : ℕ) (t : V) → IsJoin k (λ (u : ℕ). u < i) f t → IsJoin k (λ (u : ℕ). u < i + 1) f (k.join t (f i))
  below_more i t so =
      join_with laws f t i (omega arith)
      (λ u low. omega arith)
      (λ u low. ⊎_elim (λ (e : u ≡ i). inl e) (λ (ne : u ≡ i → ⊥). inr (omega arith)) (cases_eq u i))
      so

  small_join : (n most : ℕ) → k.measure k.zero ≤ most → ((u : ℕ) → u < n → k.measure (f u) ≤ most) → (t : V) × IsJoin k (λ (u : ℕ). u < n) f t × (k.measure t ≤ most)
  small_join zero most none each = (k.zero, below_none, none)
  small_join (suc n) most none each =
      let r = small_join n most none (λ u low. each u (omega arith)) in
      let rest : k.measure r.0 ≤ most = r.2 in
      let here : k.measure (f n) ≤ most = each n (omega arith) in
      (k.join r.0 (f n), join_same (λ u low. omega arith) (λ u low. omega arith) (below_more n r.0 r.1), omega (arith, laws.measure_join r.0 (f n)))

  pub join_is_small : (n most : ℕ) (t : V) → k.measure k.zero ≤ most → ((u : ℕ) → u < n → k.measure (f u) ≤ most) → IsJoin k (λ (u : ℕ). u < n) f t → k.measure t ≤ most
  join_is_small n most t none each so =
      let r = small_join n most none each in
      subst (λ (x : V). k.measure x ≤ most) (join_only laws r.0 t r.1 so) r.2
