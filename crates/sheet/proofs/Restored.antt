-- Freeing a cell that was paired or centred last: the mates are those of before.
use Rattle.std.proofs.Common.{◌≡◌, ℕ, true, eqb, Some, None, sym, ap, ◌∙◌, ⊎_elim, arith}
use Rattle.std.proofs.lemmas.Bool.Decides.{nat_tests, eqb_tells}
use Rattle.group.specs.Edits.{Mates, paired, centred, freed}

eqb_self : (a : ℕ) → eqb a a ≡ true
eqb_self a = grind (arith, nat_tests)

-- what is freed depends on the mates alone
pub freed_same : (m p : Mates) (a : ℕ) → ((x : ℕ) → m x ≡ p x) → (x : ℕ) → freed a m x ≡ freed a p x
freed_same m p a same x = simp (same a, same x)

pub paired_freed : (mate : Mates) (a b : ℕ) → mate a ≡ None → mate b ≡ None → (x : ℕ) → freed a (paired a b mate) x ≡ mate x
paired_freed mate a b at_a at_b x =
    ⊎_elim
    (λ t. simp t.0 (sym at_a ∙ ap mate (sym t.1)))
    (λ t.
    ⊎_elim
    (λ s. simp (t.0, eqb_self a, s.0) (sym at_b ∙ ap mate (sym s.1)))
    (λ s. simp (t.0, eqb_self a, s.0))
    (eqb_tells x b))
    (eqb_tells x a)

pub centred_freed : (mate : Mates) (a : ℕ) → mate a ≡ None → (x : ℕ) → freed a (centred a mate) x ≡ mate x
centred_freed mate a at_a x =
    ⊎_elim (λ t. simp t.0 (sym at_a ∙ ap mate (sym t.1))) (λ t. simp (t.0, eqb_self a)) (eqb_tells x a)

pub paired_grouped : (mate : Mates) (a b : ℕ) → paired a b mate a ≡ Some b
paired_grouped mate a b = simp (eqb_self a)

pub centred_grouped : (mate : Mates) (a : ℕ) → centred a mate a ≡ Some a
centred_grouped mate a = simp (eqb_self a)
