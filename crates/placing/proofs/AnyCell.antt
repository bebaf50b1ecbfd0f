-- What `any` over the numbers of cells tells: whether some cell has what the closure tests.
use Rattle.std.proofs.Common.{ℕ, ◌<◌, Bool, true, false, List, length, Decides, MatchBool, refl, subst, ◌∙◌, zero-add, arith}
use Rattle.std.specs.List.{range_with_len, HoldsAt, AllWithin}
use Rattle.std.proofs.lemmas.Bool.{false≢true}
use Rattle.std.proofs.lemmas.List.FromFn.{length-range_with_len, get_or-range_with_len}

module _ (n : ℕ) (P : ℕ → Type 0) where
  abbrev numbers : List ℕ
  numbers = range_with_len 0 n

  at_number : (Q : ℕ → Type 0) (k : ℕ) → k < n → HoldsAt Q numbers k → Q k
  at_number Q k low here = subst Q (get_or-range_with_len 0 n k 0 low ∙ zero-add k) (here 0)

  pub any_cell : (r : Bool) → MatchBool r ((k : ℕ) × (k < length numbers) × HoldsAt P numbers k) (AllWithin (λ k. P k → ⊥) numbers 0 (length numbers)) → ((k : ℕ) → P k → k < n) → Decides r ((k : ℕ) × P k)
  any_cell true (k, low, here) inside = (λ _. (k, at_number P k (omega (arith, length-range_with_len 0 n)) here), λ _. refl)
  any_cell false none inside = (
    λ e. absurd (false≢true e),
    λ w.
        let low : w.0 < n = inside w.0 w.1 in
        absurd (at_number (λ k. P k → ⊥) w.0 low (λ d. none w.0 d (omega arith) (omega (arith, length-range_with_len 0 n))) w.1),
  )
