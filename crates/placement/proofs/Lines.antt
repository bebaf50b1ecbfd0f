-- Cells in one line, a row or a stack, are lawfully ordered.
use Rattle.std.proofs.Common.{◌≡◌, ℕ, ◌<◌, ◌≤◌, Bool, true, false, cond, ltb, ◌⊎◌, sym, refl, ap, ◌∙◌, inl, inr, arith}
use Rattle.std.proofs.lemmas.Bool.{ltb-true, lt-ltb, le-ltb, cases_order}
use Rattle.book.specs.declared.relation.Relation.{Relation}
use Rattle.book.specs.declared.relation.Relation.TheVariants.{Left, Right, Above, Below}
use Rattle.book.specs.Order.{Apart, LeftOf, AboveOf, left, right, above, below, opposite, Laws, most_cells}
use Rattle.placement.specs.Witnesses.{line}
use Rattle.book.specs.Orders.{apart_turned}

module _ (s : Relation) (rank : ℕ → ℕ) (n : ℕ) where
  abbrev rel : ℕ → ℕ → Relation
  rel = (line s rank n).rel

  ranks_told : (a b : ℕ) → rank a < rank b → rel a b ≡ s
  ranks_told a b low = ap (λ (t : Bool). cond t s (opposite s)) (lt-ltb (rank a) (rank b) low)

  ranks_turned : (a b : ℕ) → rank a < rank b → rel b a ≡ opposite s
  ranks_turned a b low = ap (λ (t : Bool). cond t s (opposite s)) (le-ltb (rank b) (rank a) (omega arith))

  -- no two cells lie otherwise
  told_never : (r : Relation) → (s ≡ r → ⊥) → (opposite s ≡ r → ⊥) → (a b : ℕ) → rel a b ≡ r → ⊥
  told_never r not_s not_turned a b = go (ltb (rank a) (rank b))
    where
      go : (t : Bool) → cond t s (opposite s) ≡ r → ⊥
      go true e = not_s e
      go false e = not_turned e

  module _ (turns : s ≡ opposite s → ⊥) where
    told_true : (t : Bool) → cond t s (opposite s) ≡ s → t ≡ true
    told_true true e = refl
    told_true false e = absurd (turns (sym e))

    told_ranks : (a b : ℕ) → rel a b ≡ s → rank a < rank b
    told_ranks a b e = ltb-true (rank a) (rank b) (told_true (ltb (rank a) (rank b)) e)

    line_transitive : (a b c : ℕ) → Apart (line s rank n) a b → Apart (line s rank n) b c → rel a b ≡ s → rel b c ≡ s → Apart (line s rank n) a c × (rel a c ≡ s)
    line_transitive a b c ab bc p q =
        let low : rank a < rank b = told_ranks a b p in
        let high : rank b < rank c = told_ranks b c q in
        (record { a_in = ab.a_in; b_in = bc.b_in; differ = λ e. let same : rank a ≡ rank c = ap rank e in omega arith }, ranks_told a c (omega arith))

  module _ (differ : (a b : ℕ) → Apart (line s rank n) a b → rank a ≡ rank b → ⊥) where
    line_total : (a b : ℕ) → Apart (line s rank n) a b → (rel a b ≡ s) ⊎ (rel b a ≡ s)
    line_total a b apart =
        elim (cases_order (rank a) (rank b)) [
          | inl e ↦ absurd (differ a b apart e)
          | inr (inl low) ↦ inl (ranks_told a b low)
          | inr (inr high) ↦ inr (ranks_told b a high)
        ]

    line_converse : opposite (opposite s) ≡ s → (a b : ℕ) → Apart (line s rank n) a b → rel b a ≡ opposite (rel a b)
    line_converse back a b apart =
        elim (cases_order (rank a) (rank b)) [
          | inl e ↦ absurd (differ a b apart e)
          | inr (inl low) ↦ ranks_turned a b low ∙ sym (ap opposite (ranks_told a b low))
          | inr (inr high) ↦ ranks_told b a high ∙ sym back ∙ sym (ap opposite (ranks_turned b a high))
        ]

-- A row and a stack

left_not_right : Left ≡ Right → ⊥
left_not_right e = let z : ◌≡◌ {A = ℕ} 0 1 = cc in omega arith

above_not_below : Above ≡ Below → ⊥
above_not_below e = let z : ◌≡◌ {A = ℕ} 0 1 = cc in omega arith

module _ (rank : ℕ → ℕ) (n : ℕ) where
  abbrev Ranked : Relation → Type 0
  Ranked s = (a b : ℕ) → Apart (line s rank n) a b → rank a ≡ rank b → ⊥

  pub left_ranks : (a b : ℕ) → LeftOf (line Left rank n) a b → rank a < rank b
  left_ranks a b h = told_ranks Left rank n left_not_right a b h.told

  pub ranked_left : (a b : ℕ) → Apart (line Left rank n) a b → rank a < rank b → LeftOf (line Left rank n) a b
  ranked_left a b apart low = record { apart = apart; told = ranks_told Left rank n a b low }

  pub ranked_above : (a b : ℕ) → Apart (line Above rank n) a b → rank a < rank b → AboveOf (line Above rank n) a b
  ranked_above a b apart low = record { apart = apart; told = ranks_told Above rank n a b low }

  pub row_none_above : (a b : ℕ) → AboveOf (line Left rank n) a b → ⊥
  row_none_above a b h =
      told_never Left rank n Above
      (λ e. let z : ◌≡◌ {A = ℕ} 0 1 = cc in omega arith)
      (λ e. let z : ◌≡◌ {A = ℕ} 0 1 = cc in omega arith)
      a b h.told

  stack_none_left : (a b : ℕ) → LeftOf (line Above rank n) a b → ⊥
  stack_none_left a b h =
      told_never Above rank n Left
      (λ e. let z : ◌≡◌ {A = ℕ} 0 1 = cc in omega arith)
      (λ e. let z : ◌≡◌ {A = ℕ} 0 1 = cc in omega arith)
      a b h.told

  pub row_laws : 1 ≤ n → n ≤ most_cells → Ranked Left → Laws (line Left rank n)
  row_laws some few differ =
      record {
        some = some;
        few = few;
        total = λ a b apart.
            elim (line_total Left rank n differ a b apart) [
              | inl e ↦ left (record { apart = apart; told = e })
              | inr e ↦ right (record { apart = apart_turned apart; told = e })
            ];
        converse = line_converse Left rank n differ refl;
        left_transitive = λ a b c p q.
            let r = line_transitive Left rank n left_not_right a b c p.apart q.apart p.told q.told in
            record { apart = r.0; told = r.1 };
        above_transitive = λ a b c p q. absurd (row_none_above a b p);
      }

  pub stack_laws : 1 ≤ n → n ≤ most_cells → Ranked Above → Laws (line Above rank n)
  stack_laws some few differ =
      record {
        some = some;
        few = few;
        total = λ a b apart.
            elim (line_total Above rank n differ a b apart) [
              | inl e ↦ above (record { apart = apart; told = e })
              | inr e ↦ below (record { apart = apart_turned apart; told = e })
            ];
        converse = line_converse Above rank n differ refl;
        left_transitive = λ a b c p q. absurd (stack_none_left a b p);
        above_transitive = λ a b c p q.
            let r = line_transitive Above rank n above_not_below a b c p.apart q.apart p.told q.told in
            record { apart = r.0; told = r.1 };
      }
