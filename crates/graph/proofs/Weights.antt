-- How much lengths measure, zero left out: joins, sums, and a sum below the limit. Assumes nothing.
use Rattle.std.proofs.Common.{◌≡◌, ℕ, ◌+◌, ◌*◌, ◌<◌, ◌≤◌, sym, ap, ◌∙◌, subst, inl, inr, le_trans, arith}
use native.Mathlib.Nat.{max-le}
use Rattle.length.specs.Kind.{Kind, Laws, largest_size, sum_limit}
use Rattle.length.proofs.Algebra.{zero_plus}
use Rattle.graph.specs.Nodes.{most_nodes}
use Rattle.graph.specs.Settling.{Weighs}

module _ {V : Type 0} {k : Kind V} (laws : Laws k) where
  join_zero_left : (b : V) → k.join k.zero b ≡ b
  join_zero_left b = laws.at_most_both _ _ (laws.join_least _ _ _ (laws.zero_least b) (laws.at_most_same b)) (laws.join_right _ _)

  join_zero_right : (a : V) → k.join a k.zero ≡ a
  join_zero_right a = laws.at_most_both _ _ (laws.join_least _ _ _ (laws.at_most_same a) (laws.zero_least a)) (laws.join_left _ _)

  pub weighs_join : (n : ℕ) (a b : V) → Weighs k n a → Weighs k n b → Weighs k n (k.join a b)
  weighs_join n a b (inl e) h = subst (λ (x : V). Weighs k n x) (sym (ap (λ (x : V). k.join x b) e ∙ join_zero_left b)) h
  weighs_join n a b (inr h) (inl e) = subst (λ (x : V). Weighs k n x) (sym (ap (k.join a) e ∙ join_zero_right a)) (inr h)
  weighs_join n a b (inr h) (inr i) = inr (le_trans (laws.measure_join a b) (max-le h i))

  pub weighs_plus : (n : ℕ) (a w : V) → Weighs k n a → k.measure w ≤ largest_size → Weighs k (n + largest_size) (k.plus a w)
  weighs_plus n a w (inl e) small = inr (subst (λ (x : V). k.measure x ≤ n + largest_size) (sym (ap (λ (x : V). k.plus x w) e ∙ zero_plus laws w)) (omega arith))
  weighs_plus n a w (inr h) small = inr (le_trans (laws.measure_plus a w) (omega arith))

  -- where there is any light length, zero is no exception
  pub weighs_measure : (n : ℕ) (a w : V) → 0 < n → k.measure w ≤ largest_size → Weighs k (n * largest_size) a → k.measure a ≤ n * largest_size
  weighs_measure n a w some small (inl e) =
      let least : k.measure a ≤ k.measure w = laws.measure_keeps a w (subst (λ (x : V). k.at_most x w) (sym e) (laws.zero_least w)) in
      omega arith
  weighs_measure n a w some small (inr h) = h

  -- the paths of a graph are too short to pass the limit
  pub plus_answers : (n : ℕ) (a w : V) → n ≤ most_nodes → Weighs k (n * largest_size) a → k.measure w ≤ largest_size → k.measure a + k.measure w ≤ sum_limit
  plus_answers n a w few (inl e) small = let least : k.measure a ≤ 1 * largest_size = weighs_measure 1 a w (omega arith) small (inl e) in omega arith
  plus_answers n a w few (inr h) small = omega arith
