-- The loop theorem: two couples of orders that are never opposite have no loop of steps by the first order of either.
use Rattle.std.proofs.Common.{ℕ, zero, suc, ◌≤◌, ◌⊎◌, List, [], ◌∷◌, length, sym, refl, subst, inl, inr, arith}
use Rattle.placement.specs.Walks.{Walk}
use Rattle.placement.proofs.Entries.{All, Entry, all_map}
use Rattle.placement.proofs.Walking.{turn, cut_last}
use Rattle.placement.proofs.FourPoints.{Case, same, P_ahead, P_behind, Q_ahead, Q_behind, TwoOrders, Compatible, Either, First, no_loop_of_two, no_loop_of_one, four_points}

-- "P or Q" is a strict order, so a list that is not empty has a first
module _ {C : Type 0} {P Q : C → C → Type 0} (k : TwoOrders P Q) where
  P_then_Q : {u v w : C} → P u v → Q v w → Case P Q u w → P u w ⊎ Q u w
  P_then_Q {u} {v} {w} p q (same e) = absurd (k.P_not_turned_Q p (subst (λ (x : C). Q v x) (sym e) q))
  P_then_Q p q (P_ahead r) = inl r
  P_then_Q p q (P_behind r) = absurd (k.P_not_turned_Q (k.P_trans r p) q)
  P_then_Q p q (Q_ahead r) = inr r
  P_then_Q p q (Q_behind r) = absurd (k.P_not_turned_Q p (k.Q_trans q r))

  Q_then_P : {u v w : C} → Q u v → P v w → Case P Q u w → P u w ⊎ Q u w
  Q_then_P {u} {v} {w} p q (same e) = absurd (k.P_not_turned_Q q (subst (λ (x : C). Q x v) e p))
  Q_then_P p q (P_ahead r) = inl r
  Q_then_P p q (P_behind r) = absurd (k.P_not_turned_Q (k.P_trans q r) p)
  Q_then_P p q (Q_ahead r) = inr r
  Q_then_P p q (Q_behind r) = absurd (k.P_not_turned_Q q (k.Q_trans r p))

  either_trans : (u v w : C) → P u v ⊎ Q u v → P v w ⊎ Q v w → P u w ⊎ Q u w
  either_trans u v w (inl p) (inl q) = inl (k.P_trans p q)
  either_trans u v w (inl p) (inr q) = P_then_Q p q (k.cases u w)
  either_trans u v w (inr p) (inl q) = Q_then_P p q (k.cases u w)
  either_trans u v w (inr p) (inr q) = inr (k.Q_trans p q)

  first_trans : (u v w : C) → P u v ⊎ Q u v → First P Q v w → First P Q u w
  first_trans u v w h (inl e) = inr (subst (λ (x : C). P u x ⊎ Q u x) e h)
  first_trans u v w h (inr q) = inr (either_trans u v w h q)

  record Least (xs : List C) : Type 0 where
    cell : C
    within : Entry cell xs
    first : All (First P Q cell) xs

  least : (u : C) (xs : List C) → Least (u ∷ xs)
  least u [] = record { cell = u; within = inl refl; first = (inl refl, tt) }
  least u (x ∷ xs) = go (least x xs) (k.cases u (least x xs).cell)
    where
      keep : (r : Least (x ∷ xs)) → First P Q r.cell u → Least (u ∷ x ∷ xs)
      keep r h = record { cell = r.cell; within = inr r.within; first = (h, r.first) }

      take : (r : Least (x ∷ xs)) → P u r.cell ⊎ Q u r.cell → Least (u ∷ x ∷ xs)
      take r h =
          record {
            cell = u;
            within = inl refl;
            first = (inl refl, all_map (First P Q r.cell) (First P Q u) (λ y. first_trans u r.cell y h) (x ∷ xs) r.first);
          }

      go : (r : Least (x ∷ xs)) → Case P Q u r.cell → Least (u ∷ x ∷ xs)
      go r (same e) = keep r (inl (sym e))
      go r (P_ahead p) = take r (inl p)
      go r (P_behind p) = keep r (inr (inl p))
      go r (Q_ahead q) = take r (inr q)
      go r (Q_behind q) = keep r (inr (inr q))

module _ {C : Type 0} {Pa Qa Pb Qb : C → C → Type 0} {E : Type 0} (k1 : TwoOrders Pa Qa) (k2 : TwoOrders Pb Qb) (co : Compatible Pa Qa Pb Qb E) where
  -- b is first in the loop a, b, c, ..; without b or without c it is a shorter one
  shorten : (a b c : C) (xs : List C) → Either Pa Pb a b → Either Pa Pb b c → Walk (Either Pa Pb) c xs a → First Pa Qa b a → All (First Pa Qa b) xs → ((ys : List C) → length ys ≤ suc (length xs) → Walk (Either Pa Pb) a ys a → E) → E
  shorten a b c [] ab bc ca ba h shorter =
      elim (four_points k1 k2 co a b c a ab bc ca ba ba) [
        | inl e ↦ e
        | inr (inl ac) ↦ no_loop_of_two k1 k2 co ac ca
        | inr (inr ba) ↦ no_loop_of_two k1 k2 co ab ba
      ]
  shorten a b c (d ∷ xs) ab bc cd ba h shorter =
      elim (four_points k1 k2 co a b c d ab bc cd.0 ba h.0) [
        | inl e ↦ e
        | inr (inl ac) ↦ shorter (c ∷ d ∷ xs) (omega arith) (ac, cd)
        | inr (inr bd) ↦ shorter (b ∷ d ∷ xs) (omega arith) (ab, (bd, cd.1))
      ]

  -- the loop from its first cell b, with the cell a before it
  from_first : (n : ℕ) (a b : C) (zs : List C) → length zs ≤ n → Either Pa Pb a b → Walk (Either Pa Pb) b zs a → First Pa Qa b a → All (First Pa Qa b) zs → ((u : C) (ys : List C) → length ys ≤ n → Walk (Either Pa Pb) u ys u → E) → E
  from_first n a b [] s ab w ba h shorter = no_loop_of_two k1 k2 co ab w
  from_first n a b (c ∷ xs) s ab w ba h shorter =
      shorten a b c xs ab w.0 w.1 ba h.1 (λ ys t. shorter a ys (omega arith))

  at_first : (n : ℕ) (b : C) (ys : List C) → length ys ≤ suc n → Walk (Either Pa Pb) b ys b → All (First Pa Qa b) ys → ((u : C) (ys : List C) → length ys ≤ n → Walk (Either Pa Pb) u ys u → E) → E
  at_first n b [] s w h shorter = no_loop_of_one k1 k2 co refl w
  at_first n b (y ∷ ys) s w h shorter =
      let r = cut_last (Either Pa Pb) (First Pa Qa b) b y ys b w h in
      from_first n r.last b r.way (omega (arith, r.size)) r.step r.to r.last_all r.way_all shorter

  no_round : (n : ℕ) (u : C) (xs : List C) → length xs ≤ n → Walk (Either Pa Pb) u xs u → E
  no_round zero u [] s w = no_loop_of_one k1 k2 co refl w
  no_round zero u (x ∷ xs) s w = absurd (omega arith)
  no_round (suc n) u xs s w =
      let l = least k1 u xs in
      let r = turn (Either Pa Pb) (First Pa Qa l.cell) u xs l.cell w l.first l.within in
      at_first n l.cell r.rest (omega (arith, r.size)) r.round r.rest_all (no_round n)

  pub no_loop : (u : C) (xs : List C) → Walk (Either Pa Pb) u xs u → E
  no_loop u xs w = no_round (length xs) u xs (omega arith) w
