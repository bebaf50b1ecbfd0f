-- Least upper bounds of families: there is one at most, and how one is made place by place. Assumes nothing.
use Rattle.std.proofs.Common.{◌≡◌, ℕ, ◌+◌, ◌<◌, ◌⊎◌, sym, subst, inl, inr, ⊎_elim, arith}
use Rattle.std.proofs.lemmas.Bool.{cases_eq}
use Rattle.length.specs.Kind.{Kind, Laws}
use Rattle.length.specs.Join.{IsJoin}
use Rattle.length.proofs.Algebra.{at_most_plus_right, minus_plus}

-- the same family, put in other words
pub join_same : {V : Type 0} {k : Kind V} {I : Type 0} {P Q : I → Type 0} {f : I → V} {t : V} → ((i : I) → P i → Q i) → ((i : I) → Q i → P i) → IsJoin k P f t → IsJoin k Q f t
join_same into from so = record {
  above = λ i h. so.above i (from i h);
  least = λ b all. so.least b (λ i h. all i (into i h));
}

-- equal values at each place
pub join_like : {V : Type 0} {k : Kind V} {I : Type 0} {P : I → Type 0} {t : V} (f g : I → V) → ((i : I) → P i → f i ≡ g i) → IsJoin k P f t → IsJoin k P g t
join_like {V} {k} {t = t} f g same so = record {
  above = λ i h. subst (λ (x : V). k.at_most x t) (same i h) (so.above i h);
  least = λ b all. so.least b (λ i h. subst (λ (x : V). k.at_most x b) (sym (same i h)) (all i h));
}

-- For any family
module _ {V : Type 0} {k : Kind V} (laws : Laws k) {I : Type 0} where
  pub join_only : {P : I → Type 0} {f : I → V} (s t : V) → IsJoin k P f s → IsJoin k P f t → s ≡ t
  join_only s t a b = laws.at_most_both s t (a.least t b.above) (b.least s a.above)

  pub join_empty : {P : I → Type 0} {f : I → V} → ((i : I) → P i → ⊥) → IsJoin k P f k.zero
  join_empty nothing = record {
    above = λ i h. absurd (nothing i h);
    least = λ b _. laws.zero_least b;
  }

  pub join_with : {P Q : I → Type 0} (f : I → V) (t : V) (j : I) → Q j → ((i : I) → P i → Q i) → ((i : I) → Q i → (i ≡ j) ⊎ P i) → IsJoin k P f t → IsJoin k Q f (k.join t (f j))
  join_with {P} f t j here into from so = record {
    above = λ i h. ⊎_elim
        (λ (e : i ≡ j). subst (λ (x : I). k.at_most (f x) (k.join t (f j))) (sym e) (laws.join_right t (f j)))
        (λ (p : P i). laws.at_most_trans _ _ _ (so.above i p) (laws.join_left t (f j)))
        (from i h);
    least = λ b all. laws.join_least _ _ _ (so.least b (λ i h. all i (into i h))) (all j here);
  }

  -- of all sums with c it is the sum with c, if there is any
  pub join_shift : {P : I → Type 0} (f : I → V) (t c : V) (j : I) → P j → IsJoin k P f t → IsJoin k P (λ (i : I). k.plus (f i) c) (k.plus t c)
  join_shift {P} f t c j here so = record {
    above = λ i h. laws.plus_keeps (f i) t c (so.above i h);
    least = λ b all.
        let within : k.at_most c b = laws.at_most_trans _ _ _ (at_most_plus_right laws (f j) c) (all j here) in
        let d : V = k.minus b c in
        let made : k.plus d c ≡ b = minus_plus laws c b within in
        let each : (i : I) → P i → k.at_most (f i) d = λ i h. laws.plus_cancels (f i) d c (subst (λ (x : V). k.at_most (k.plus (f i) c) x) (sym made) (all i h)) in
        subst (λ (x : V). k.at_most (k.plus t c) x) made (laws.plus_keeps t d c (so.least d each));
  }

-- For a family over numbers, whose places are gone through in order
module _ {V : Type 0} {k : Kind V} (laws : Laws k) (P : ℕ → Type 0) (f : ℕ → V) where
  pub join_none : IsJoin k (λ (u : ℕ). (u < 0) × P u) f k.zero
  join_none = join_empty laws (λ u h. let low : u < 0 = h.0 in omega arith)

  pub join_more : (i : ℕ) (t : V) → IsJoin k (λ (u : ℕ). (u < i) × P u) f t → P i → IsJoin k (λ (u : ℕ). (u < i + 1) × P u) f (k.join t (f i))
  join_more i t so here =
      join_with laws f t i (omega arith, here)
      (λ u h. (let low : u < i = h.0 in omega arith, h.1))
      (λ u h. ⊎_elim
      (λ (e : u ≡ i). inl e)
      (λ (ne : u ≡ i → ⊥). inr (let low : u < i + 1 = h.0 in omega arith, h.1))
      (cases_eq u i))
      so

  pub join_skip : (i : ℕ) (t : V) → IsJoin k (λ (u : ℕ). (u < i) × P u) f t → (P i → ⊥) → IsJoin k (λ (u : ℕ). (u < i + 1) × P u) f t
  join_skip i t so not_here =
      join_same
      (λ u h. (let low : u < i = h.0 in omega arith, h.1))
      (λ u h. ⊎_elim
      (λ (e : u ≡ i). absurd (not_here (subst P e h.1)))
      (λ (ne : u ≡ i → ⊥). (let low : u < i + 1 = h.0 in omega arith, h.1))
      (cases_eq u i))
      so

  pub join_all : (n : ℕ) (t : V) → ((u : ℕ) → P u → u < n) → IsJoin k (λ (u : ℕ). (u < n) × P u) f t → IsJoin k P f t
  join_all n t inside so = join_same (λ u h. h.1) (λ u h. (inside u h, h)) so
