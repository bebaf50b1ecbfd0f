-- Adding to a graph what is given for one couple of cells after another.
use Rattle.std.proofs.Common.{◌≡◌, ℕ, ◌⊎◌, ◌<◌, Some, None, sym, refl, ◌∙◌, subst₂, inl, inr, arith}
use Rattle.graph.specs.declared.graph.Graph.{Graph}
use Rattle.graph.specs.Steps.{Step, Stepless, Linked}
use Rattle.placing.specs.Graphs.{TwoSteps, OneOf, Built}

module _ {nodes : ℕ} {gives : ℕ → ℕ → TwoSteps → Type 0} where
  pub given_none : {C : ℕ → ℕ → Type 0} {g : Graph} → Stepless nodes g → ((a b : ℕ) → C a b → ⊥) → Built nodes gives C g
  given_none bare none = record {
    count = bare.count;
    only = λ v u step. absurd (bare.nothing v u step);
    all = λ a b in_c. absurd (none a b in_c);
  }

  -- the same couples, put in other words
  pub given_like : {C D : ℕ → ℕ → Type 0} {g : Graph} → ((a b : ℕ) → C a b → D a b) → ((a b : ℕ) → D a b → C a b) → Built nodes gives C g → Built nodes gives D g
  given_like into from so = record {
    count = so.count;
    only = λ v u step. let s = so.only v u step in (s.0, s.1, into s.0 s.1 s.2, s.3, s.4, s.5);
    all = λ a b in_d. so.all a b (from a b in_d);
  }

  -- one couple more, for which r is given
  given_more :
      {C : ℕ → ℕ → Type 0} {g h : Graph} (a b : ℕ) (r : TwoSteps) → gives a b r →
      h.nodes ≡ g.nodes →
      ((v u : ℕ) → Step g v u → Step h v u) →
      ((v u : ℕ) → Step h v u → Step g v u ⊎ OneOf r v u) →
      ((v u : ℕ) → OneOf r v u → v < nodes → u < nodes → Step h v u) →
      Built nodes gives C g →
      Built nodes gives (λ x y. C x y ⊎ ((x ≡ a) × (y ≡ b))) h
  given_more a b r given count kept only there so = record {
    count = count ∙ so.count;
    only = λ v u step. elim (only v u step) [
      | inl old ↦ let s = so.only v u old in (s.0, s.1, inl s.2, s.3, s.4, s.5)
      | inr new ↦ (a, b, inr (refl, refl), r, given, new)
    ];
    all = λ x y in_c. elim in_c [
      | inl old ↦ let s = so.all x y old in (s.0, s.1, λ v u one v_in u_in. kept v u (s.2 v u one v_in u_in))
      | inr e ↦ (r, subst₂ (λ (i j : ℕ). gives i j r) (sym e.0) (sym e.1) given, there)
    ];
  }

  pub given_linked :
      {C : ℕ → ℕ → Type 0} {g h j : Graph} (a b v u x y : ℕ) → gives a b (Some ((v, u), (x, y))) → Linked g h v u → Linked h j x y → Built nodes gives C g →
      Built nodes gives (λ i k. C i k ⊎ ((i ≡ a) × (k ≡ b))) j
  given_linked {g = g} {h} {j} a b v u x y given one two so =
      given_more a b (Some ((v, u), (x, y))) given (two.count ∙ one.count)
      (λ i k step. two.kept i k (one.kept i k step))
      (λ i k step. elim (two.only i k step) [
        | inl old ↦ elim (one.only i k old) [ inl older ↦ inl older | inr e ↦ inr (inl e) ]
        | inr e ↦ inr (inr e)
      ])
      (λ i k step i_in k_in. elim step [
        | inl e ↦ two.kept i k (subst₂ (Step h) (sym e.0) (sym e.1) (one.there (omega (arith, e.0, so.count)) (omega (arith, e.1, so.count))))
        | inr e ↦ subst₂ (Step j) (sym e.0) (sym e.1) (two.there (omega (arith, e.0, so.count, one.count)) (omega (arith, e.1, so.count, one.count)))
      ])
      so

  pub given_nothing :
      {C : ℕ → ℕ → Type 0} {g : Graph} (a b : ℕ) → gives a b None → Built nodes gives C g →
      Built nodes gives (λ i k. C i k ⊎ ((i ≡ a) × (k ≡ b))) g
  given_nothing a b given so =
      given_more a b None given refl (λ i k step. step) (λ i k step. inl step) (λ i k step i_in k_in. absurd step) so
