-- Two orders P and Q of which exactly one holds between any two, one way round; and the four-point lemma for two such
-- couples of orders that are never opposite.
use Rattle.std.proofs.Common.{◌≡◌, ◌⊎◌, sym, subst, inl, inr}

pub data Case {C : Type 0} (P Q : C → C → Type 0) (u v : C) : Type 0 where
  same : u ≡ v → Case P Q u v
  P_ahead : P u v → Case P Q u v
  P_behind : P v u → Case P Q u v
  Q_ahead : Q u v → Case P Q u v
  Q_behind : Q v u → Case P Q u v

pub record TwoOrders {C : Type 0} (P Q : C → C → Type 0) : Type 0 where
  pub cases : (u v : C) → Case P Q u v
  pub P_trans : {u v w : C} → P u v → P v w → P u w
  pub Q_trans : {u v w : C} → Q u v → Q v w → Q u w
  pub P_anti : {u v : C} → P u v → P v u → ⊥
  pub Q_anti : {u v : C} → Q u v → Q v u → ⊥
  pub P_not_Q : {u v : C} → P u v → Q u v → ⊥
  pub P_not_turned_Q : {u v : C} → P u v → Q v u → ⊥

-- two couples of orders that are never opposite; where they are, E
pub record Compatible {C : Type 0} (Pa Qa Pb Qb : C → C → Type 0) (E : Type 0) : Type 0 where
  pub opposed_P : {u v : C} → Pa u v → Pb v u → E
  pub opposed_Q : {u v : C} → Qa u v → Qb v u → E

abbrev pub Either : {C : Type 0} → (C → C → Type 0) → (C → C → Type 0) → C → C → Type 0
Either Pa Pb u v = Pa u v ⊎ Pb u v

-- u before v in "P or Q", or the same
abbrev pub First : {C : Type 0} → (C → C → Type 0) → (C → C → Type 0) → C → C → Type 0
First P Q u v = (u ≡ v) ⊎ (P u v ⊎ Q u v)

-- P and Q with their parts exchanged
exchange_case : {C : Type 0} {P Q : C → C → Type 0} {u v : C} → Case P Q u v → Case Q P u v
exchange_case (same e) = same e
exchange_case (P_ahead p) = Q_ahead p
exchange_case (P_behind p) = Q_behind p
exchange_case (Q_ahead q) = P_ahead q
exchange_case (Q_behind q) = P_behind q

pub exchange : {C : Type 0} {P Q : C → C → Type 0} → TwoOrders P Q → TwoOrders Q P
exchange k =
    record {
      cases = λ u v. exchange_case (k.cases u v);
      P_trans = k.Q_trans;
      Q_trans = k.P_trans;
      P_anti = k.Q_anti;
      Q_anti = k.P_anti;
      P_not_Q = λ q p. k.P_not_Q p q;
      P_not_turned_Q = λ q p. k.P_not_turned_Q p q;
    }

-- seen through a mirror f: P as it is, Q the other way round
module _ {C : Type 0} {P Q : C → C → Type 0} (k : TwoOrders P Q) (f : C → C) (injective : (u v : C) → f u ≡ f v → u ≡ v) where
  mirror_case : (u v : C) → Case P Q (f u) (f v) → Case (λ x y. P (f x) (f y)) (λ x y. Q (f y) (f x)) u v
  mirror_case u v (same e) = same (injective u v e)
  mirror_case u v (P_ahead p) = P_ahead p
  mirror_case u v (P_behind p) = P_behind p
  mirror_case u v (Q_ahead q) = Q_behind q
  mirror_case u v (Q_behind q) = Q_ahead q

  pub mirror : TwoOrders (λ u v. P (f u) (f v)) (λ u v. Q (f v) (f u))
  mirror =
      record {
        cases = λ u v. mirror_case u v (k.cases (f u) (f v));
        P_trans = λ p q. k.P_trans p q;
        Q_trans = λ p q. k.Q_trans q p;
        P_anti = λ p q. k.P_anti p q;
        Q_anti = λ p q. k.Q_anti q p;
        P_not_Q = λ p q. k.P_not_turned_Q p q;
        P_not_turned_Q = λ p q. k.P_not_Q p q;
      }

module _ {C : Type 0} {Pa Qa Pb Qb : C → C → Type 0} {E : Type 0} (k1 : TwoOrders Pa Qa) (k2 : TwoOrders Pb Qb) (co : Compatible Pa Qa Pb Qb E) where
  -- Pa or Pb has no loop of one or two
  pub no_loop_of_two : {a b : C} → Either Pa Pb a b → Either Pa Pb b a → E
  no_loop_of_two (inl p) (inl q) = absurd (k1.P_anti p q)
  no_loop_of_two (inl p) (inr q) = co.opposed_P p q
  no_loop_of_two (inr p) (inl q) = co.opposed_P q p
  no_loop_of_two (inr p) (inr q) = absurd (k2.P_anti p q)

  two_to_same : {a b c : C} → a ≡ c → Either Pa Pb a b → Either Pa Pb b c → E
  two_to_same {a} {b} e p q = no_loop_of_two p (subst (λ (x : C). Either Pa Pb b x) (sym e) q)

  pub no_loop_of_one : {a b : C} → a ≡ b → Either Pa Pb a b → E
  no_loop_of_one {a} e p = let q : Either Pa Pb a a = subst (λ (x : C). Either Pa Pb a x) (sym e) p in no_loop_of_two q q

  -- the one case that is left: b before a and d by Qa, and Pb a b, Pa b c, Pb c d
  module _ (a b c d : C) (ab : Pb a b) (ba : Qa b a) (bc : Pa b c) (cd : Pb c d) (bd : Qa b d) where
    Out : Type 0
    Out = E ⊎ (Either Pa Pb a c ⊎ Either Pa Pb b d)

    by_b_c : Qb c a → Qb b d → Case Pb Qb b c → Out
    unfolding Out
    by_b_c ca bd2 (same e) = inl (no_loop_of_one e (inl bc))
    by_b_c ca bd2 (P_ahead p) = inr (inl (inr (k2.P_trans ab p)))
    by_b_c ca bd2 (P_behind p) = inl (co.opposed_P bc p)
    by_b_c ca bd2 (Q_ahead q) = absurd (k2.P_not_turned_Q ab (k2.Q_trans q ca))
    by_b_c ca bd2 (Q_behind q) = absurd (k2.P_not_Q cd (k2.Q_trans q bd2))

    by_a_c_again : Qa c a → Qb b d → Case Pb Qb a c → Out
    unfolding Out
    by_a_c_again ca bd2 (same e) = inl (two_to_same e (inr ab) (inl bc))
    by_a_c_again ca bd2 (P_ahead p) = inr (inl (inr p))
    by_a_c_again ca bd2 (P_behind p) = inl (co.opposed_P bc (k2.P_trans p ab))
    by_a_c_again ca bd2 (Q_ahead q) = inl (co.opposed_Q ca q)
    by_a_c_again ca bd2 (Q_behind q) = by_b_c q bd2 (k2.cases b c)

    by_a_c : Qb b d → Case Pa Qa a c → Out
    unfolding Out
    by_a_c bd2 (same e) = inl (two_to_same e (inr ab) (inl bc))
    by_a_c bd2 (P_ahead p) = inr (inl (inl p))
    by_a_c bd2 (P_behind p) = inl (co.opposed_P (k1.P_trans bc p) ab)
    by_a_c bd2 (Q_ahead q) = absurd (k1.P_not_Q bc (k1.Q_trans ba q))
    by_a_c bd2 (Q_behind q) = by_a_c_again q bd2 (k2.cases a c)

    by_b_d : Case Pb Qb b d → Out
    unfolding Out
    by_b_d (same e) = inl (two_to_same e (inl bc) (inr cd))
    by_b_d (P_ahead p) = inr (inr (inr p))
    by_b_d (P_behind p) = inl (co.opposed_P bc (k2.P_trans cd p))
    by_b_d (Q_ahead q) = by_a_c q (k1.cases a c)
    by_b_d (Q_behind q) = inl (co.opposed_Q bd q)

  -- a, b, c, d in a row with b first among a, b and d: b or c can be left out
  pub four_points : (a b c d : C) → Either Pa Pb a b → Either Pa Pb b c → Either Pa Pb c d → First Pa Qa b a → First Pa Qa b d → E ⊎ (Either Pa Pb a c ⊎ Either Pa Pb b d)
  unfolding Out
  four_points a b c d (inl ab) bc cd (inl e) bd = inl (no_loop_of_one (sym e) (inl ab))
  four_points a b c d (inl ab) bc cd (inr (inl p)) bd = absurd (k1.P_anti ab p)
  four_points a b c d (inl ab) bc cd (inr (inr q)) bd = absurd (k1.P_not_turned_Q ab q)
  four_points a b c d (inr ab) bc cd (inl e) bd = inl (no_loop_of_one (sym e) (inr ab))
  four_points a b c d (inr ab) bc cd (inr (inl p)) bd = inl (co.opposed_P p ab)
  four_points a b c d (inr ab) (inr bc) cd (inr (inr ba)) bd = inr (inl (inr (k2.P_trans ab bc)))
  four_points a b c d (inr ab) (inl bc) (inl cd) (inr (inr ba)) bd = inr (inr (inl (k1.P_trans bc cd)))
  four_points a b c d (inr ab) (inl bc) (inr cd) (inr (inr ba)) (inl e) = inl (two_to_same e (inl bc) (inr cd))
  four_points a b c d (inr ab) (inl bc) (inr cd) (inr (inr ba)) (inr (inl p)) = inr (inr (inl p))
  four_points a b c d (inr ab) (inl bc) (inr cd) (inr (inr ba)) (inr (inr bd)) = by_b_d a b c d ab ba bc cd bd (k2.cases b d)
