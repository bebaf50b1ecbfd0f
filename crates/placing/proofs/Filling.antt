-- A list that is filled from its start: what holds of each entry so far holds of one more.
use Rattle.std.proofs.Common.{◌≡◌, ℕ, ◌+◌, ◌<◌, ◌≤◌, List, length, get_or, set, sym, ◌∙◌, subst, arith, below_more}
use Rattle.std.proofs.lemmas.List.{get_or-set_same, get_or-set_other}

pub filled_more : {X : Type 0} (P : ℕ → X → Type 0) (xs : List X) (i : ℕ) (x d : X) → i < length xs → ((j : ℕ) → j < i → P j (get_or xs j d)) → P i x → (j : ℕ) → j < i + 1 → P j (get_or (set xs i x) j d)
filled_more P xs i x d inside before here =
    below_more (λ (j : ℕ). P j (get_or (set xs i x) j d)) i
    (λ j low. let ne : j ≡ i → ⊥ = λ e. omega arith in subst (P j) (sym (get_or-set_other xs i j x d ne)) (before j low))
    (subst (P i) (sym (get_or-set_same xs i x d inside)) here)

-- and each entry past it is still that of the list as it was
pub filled_and_left : {X : Type 0} (P : ℕ → X → Type 0) (xs ys : List X) (i : ℕ) (x d : X) → i < length xs → ((j : ℕ) → j < i → P j (get_or xs j d)) × ((j : ℕ) → i ≤ j → get_or xs j d ≡ get_or ys j d) → P i x → ((j : ℕ) → j < i + 1 → P j (get_or (set xs i x) j d)) × ((j : ℕ) → i + 1 ≤ j → get_or (set xs i x) j d ≡ get_or ys j d)
filled_and_left P xs ys i x d inside before here = (
  filled_more P xs i x d inside before.0 here,
  λ j past. let ne : j ≡ i → ⊥ = λ e. omega arith in get_or-set_other xs i j x d ne ∙ before.1 j (omega arith),
)
