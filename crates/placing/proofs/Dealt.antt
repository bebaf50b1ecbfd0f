-- Weights that are dealt out: those at hand, and the same again.
use Rattle.std.proofs.Common.{◌≡◌, ℕ, ◌+◌, ◌%◌, ◌<◌, ◌≤◌, ◌⊎◌, List, [], ◌∷◌, length, get_or, drop, Option, Some, None, MatchOption, Bor, Iter, sym, ap, ◌∙◌, subst, add-one, inl, inr, ⊎_elim, mod-eq_of_lt, mod-lt, arith}
use Rattle.std.proofs.Math.Nat.{mod_self, suc-mod, add-mod_left}
use Rattle.std.proofs.lemmas.Bool.{cases_lt}
use Rattle.std.proofs.lemmas.List.{drop_more, drop_all, length-drop}
use Rattle.graph.specs.Heaviest.{dealt}

module _ {V : Type 0} (zero : V) (xs : List V) (n : ℕ) (long : length xs ≡ n) (a : ℕ) (inside : a < n) where
  pub dealt_first : dealt zero xs a ≡ get_or xs a zero
  dealt_first = ap (λ (i : ℕ). get_or xs i zero) (ap (λ (l : ℕ). a % l) long ∙ mod-eq_of_lt inside)

  pub dealt_again : dealt zero xs (n + a) ≡ get_or xs a zero
  dealt_again = ap (λ (i : ℕ). get_or xs i zero) (ap (λ (l : ℕ). (n + a) % l) long ∙ add-mod_left n a ∙ mod-eq_of_lt inside)

-- what is left of a list shows its next entry
pub next_left : {V : Type 0} (zero : V) (xs : List V) (u : ℕ) (x : V) (more : List V) → x ∷ more ≡ drop u xs → (u < length xs) × (x ≡ get_or xs u zero) × (more ≡ drop (u + 1) xs)
next_left zero xs u x more left =
    let low : u < length xs = omega (arith, length-drop u xs, ap length left) in
    let step = drop_more xs u zero low in
    (low, cc, cc)

-- what a round over xs has left after u were dealt out; at the end of a round it may be that the next has not begun
abbrev pub Left : {V : Type 0} → List V → ℕ → List V → Type 0
Left xs u rest = (rest ≡ drop (u % length xs) xs) ⊎ ((rest ≡ []) × (u % length xs ≡ 0))

module _ {V : Type 0} (zero : V) (xs : List V) (some : 0 < length xs) (u : ℕ) where
  left_after : Left xs (u + 1) (drop (u % length xs + 1) xs)
  left_after = ⊎_elim
      (λ (more : u % length xs + 1 < length xs). inl (ap (λ (i : ℕ). drop i xs) (sym (step ∙ mod-eq_of_lt more))))
      (λ (last : length xs ≤ u % length xs + 1). inr (drop_all _ xs last, step ∙ ap (λ (i : ℕ). i % length xs) (omega (arith, mod-lt u some)) ∙ mod_self (length xs)))
      (cases_lt (u % length xs + 1) (length xs))
    where
      step : (u + 1) % length xs ≡ (u % length xs + 1) % length xs
      step = rw (add-one, add-one) (suc-mod u (length xs))

  dealt_here : (x : V) (more : List V) → x ∷ more ≡ drop (u % length xs) xs → (x ≡ dealt zero xs u) × Left xs (u + 1) more
  dealt_here x more left =
      let next = next_left zero xs (u % length xs) x more left in
      (next.1, subst (λ (l : List V). Left xs (u + 1) l) (sym next.2) left_after)

  dealt_on : (x : V) (more rest : List V) → Left xs u rest → rest ≡ x ∷ more → (x ≡ dealt zero xs u) × Left xs (u + 1) more
  dealt_on x more rest (inl left) taken = dealt_here x more (sym taken ∙ left)
  dealt_on x more rest (inr none) taken = let no : [] ≡ x ∷ more = sym none.0 ∙ taken in cc

  dealt_anew : (x : V) (more rest : List V) → Left xs u rest → length rest ≡ 0 → xs ≡ x ∷ more → (x ≡ dealt zero xs u) × Left xs (u + 1) more
  dealt_anew x more rest (inl left) none taken = absurd (omega (arith, mod-lt u some, length-drop (u % length xs) xs, ap length left))
  dealt_anew x more rest (inr left) none taken = dealt_here x more (sym taken ∙ ap (λ (i : ℕ). drop i xs) (sym left.1))

  -- the turn of a loop over `cycle`
  pub dealt_turn : (old new start : Iter V) (y : Bor V) → start.rest.now ≡ xs → Left xs u old.rest.now → (o : Option (Bor V)) (i : Iter V)
      → MatchOption o ((length old.rest.now ≡ 0) × (i ≡ old)) (λ x. old.rest.now ≡ x.now ∷ i.rest.now)
      → MatchOption o ((j : Iter V) × (j.rest.now ≡ start.rest.now) × (j.rest.now ≡ y.now ∷ new.rest.now)) (λ x. (Some y ≡ Some x) × (new ≡ i))
      → (y.now ≡ dealt zero xs u) × Left xs (u + 1) new.rest.now
  dealt_turn old new start y all left None i over anew = dealt_anew y.now new.rest.now old.rest.now left over.0 (sym all ∙ sym anew.1 ∙ anew.2)
  dealt_turn old new start y all left (Some x) i taken same = dealt_on y.now new.rest.now old.rest.now left (let e : y ≡ x = cc in cc)
