-- Bottoms and the depth, checked cell by cell: what is under a cell ends at its bottom or below, and each cell stands at
-- zero or where one under it ends.
use Rattle.std.proofs.Common.{◌≡◌, ℕ, zero, suc, ◌+◌, ◌<◌, ◌≤◌, ◌⊎◌, List, [], ◌∷◌, inl, inr, arith}
use Rattle.length.specs.Kind.{Laws}
use Rattle.length.specs.Kinds.{plain, plain_kind}
use Rattle.length.specs.declared.Plain.{Plain}
use Rattle.length.proofs.Joins.{join_shift}
use Rattle.placement.specs.Meaning.{Meaning, Lawful}
use Rattle.placement.specs.Downward.{total, Under, Descent, Bottom, Depth}
use Rattle.placement.proofs.DownwardLoops.{under_to_cell}
use Rattle.worked.proofs.Tests.{Test, both, either, gives, at_most, equal, every, some}
use Rattle.worked.proofs.Deciding.{under?}

module _ (m : Meaning) (h y : ℕ → Plain) where
  abbrev pub n : ℕ
  n = m.order.count

  -- where a cell ends
  abbrev pub top : ℕ → ℕ
  top a = (y a).0 + (h a).0

  -- a stands at zero, or where a cell under it ends
  abbrev pub Rests : ℕ → Type 0
  Rests a = ((y a).0 ≡ 0) ⊎ ((b : ℕ) × (b < n) × (Under m a b × (top b ≡ (y a).0)))

  abbrev pub Piles : Type 0
  Piles = ((a : ℕ) → a < n → (b : ℕ) → b < n → Under m a b → top b ≤ (y a).0) × ((a : ℕ) → a < n → Rests a)

  abbrev pub piles? : Test Piles
  piles? =
      both (every n (λ a. every n (λ b. gives (under? m a b) (at_most (top b) (y a).0))))
      (every n (λ a. either (equal (y a).0 0) (some n (λ b. both (under? m a b) (equal (top b) (y a).0)))))

  abbrev pub Deep : ℕ → Type 0
  Deep d = ((a : ℕ) → a < n → top a ≤ d) × ((a : ℕ) × (a < n) × (top a ≡ d))

  abbrev pub deep? : (d : ℕ) → Test (Deep d)
  deep? d = both (every n (λ a. at_most (top a) d)) (some n (λ a. equal (top a) d))

  pub depth_is : (d : ℕ) → Deep d → Depth plain_kind m h y (plain d)
  depth_is d (all, (a, here, is)) = record { above = all; least = λ b every. let fits = every a here in omega arith }

  module _ (laws : Laws plain_kind) (lawful : Lawful m) (high : (a : ℕ) → a < n → 0 < (h a).0) (piles : Piles) where
    descent_fits : (a : ℕ) → a < n → (us : List ℕ) → Descent m a us → (total plain_kind h us).0 ≤ (y a).0
    descent_fits a here [] path = omega arith
    descent_fits a here (b ∷ us) path =
        let there : b < n = under_to_cell path.0 in
        let rest = descent_fits b there us path.1 in
        let step = piles.0 a here b there path.0 in
        omega arith

    reached : (a : ℕ) → ((b : ℕ) → b < n → (y b).0 < (y a).0 → Bottom plain_kind m h b (y b)) → (t : Plain) → ((us : List ℕ) → Descent m a us → (total plain_kind h us).0 ≤ t.0) → Rests a → (y a).0 ≤ t.0
    reached a earlier t all (inl none) = omega arith
    reached a earlier t all (inr (b, there, (under, is))) =
        let some_height = high b there in
        let fits = (join_shift laws (total plain_kind h) (y b) (h b) [] tt (earlier b there (omega arith))).least t
        (λ us path. let long = all (b ∷ us) (under, path) in omega arith) in
        omega arith

    bottom_below : (bound a : ℕ) → a < n → (y a).0 < bound → Bottom plain_kind m h a (y a)
    bottom_below zero a here low = absurd (omega arith)
    bottom_below (suc bound) a here low = record {
      above = descent_fits a here;
      least = λ t all. reached a (λ b there less. bottom_below bound b there (omega arith)) t all (piles.1 a here);
    }

    pub bottom_is : (a : ℕ) → a < n → Bottom plain_kind m h a (y a)
    bottom_is a here = bottom_below (suc (y a).0) a here (omega arith)
