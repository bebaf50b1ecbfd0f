-- The join of the totals of all paths from a place exists where steps are decided, their ends listed, and paths short.
use Rattle.std.proofs.Common.{ℕ, zero, suc, ◌≤◌, List, [], ◌∷◌, length, arith}
use Rattle.length.specs.Kind.{Kind, Laws}
use Rattle.length.specs.Join.{IsJoin}
use Rattle.length.proofs.Joins.{join_same}
use Rattle.placement.specs.Walks.{Path}
use Rattle.placement.specs.Downward.{total}
use Rattle.placement.proofs.Entries.{Entry}
use Rattle.placement.proofs.FiniteJoins.{Headed, headed_join}

module _ {V : Type 0} {k : Kind V} (laws : Laws k) {C : Type 0} (f : C → V) (R : C → C → Type 0) (step? : (u v : C) → Dec (R u v)) (all : List C) (listed : (u v : C) → R u v → Entry v all) where
  abbrev Short : ℕ → C → List C → Type 0
  Short n u us = Path R u us × (length us ≤ n)

  none_longer : (u : C) (us : List C) → Short zero u us → k.at_most (total k f us) k.zero
  none_longer u [] h = laws.at_most_same _
  none_longer u (x ∷ xs) h = let long : length (x ∷ xs) ≤ 0 = h.1 in absurd (omega arith)

  one_longer : (n : ℕ) (u : C) (us : List C) → Headed (R u) (Short n) us → Short (suc n) u us
  one_longer n u [] h = (tt, omega arith)
  one_longer n u (x ∷ xs) h = let few : length xs ≤ n = h.1.1 in ((h.0, h.1.0), omega arith)

  one_shorter : (n : ℕ) (u : C) (us : List C) → Short (suc n) u us → Headed (R u) (Short n) us
  one_shorter n u [] h = tt
  one_shorter n u (x ∷ xs) h = let few : length (x ∷ xs) ≤ suc n = h.1 in (h.0.0, (h.0.1, omega arith))

  short_join : (n : ℕ) (u : C) → (t : V) × IsJoin k (Short n u) (total k f) t
  short_join zero u = (k.zero, record { above = none_longer u; least = λ b every. laws.zero_least b })
  short_join (suc n) u =
      let r = headed_join laws f (R u) (step? u) all (listed u) (Short n) (λ c. (tt, omega arith)) (λ c. (short_join n c).0) (λ c. (short_join n c).1) in
      (r.0, join_same (one_longer n u) (one_shorter n u) r.1)

  pub path_join : (n : ℕ) → ((u : C) (us : List C) → Path R u us → length us ≤ n) → (u : C) → (t : V) × IsJoin k (Path R u) (total k f) t
  path_join n short u =
      let r = short_join n u in
      (r.0, join_same (λ us h. h.0) (λ us h. (h, short u us h)) r.1)
