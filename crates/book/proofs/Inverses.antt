-- A row and its table of places: the table is a lawful one, and places compare as the row has them.
use Rattle.std.proofs.Common.{◌≡◌, ℕ, ◌<◌, ◌≤◌, ◌⊎◌, List, length, get_or, sym, ap, ◌∙◌, subst, inl, inr, ⊎_elim, arith}
use Rattle.std.proofs.lemmas.Bool.Decides.{nat_tests}
use Rattle.std.proofs.lemmas.Bool.{cases_lt}
use Rattle.book.specs.declared.relation.Relation.{Relation}
use Rattle.book.specs.declared.relation.Relation.TheVariants.{Left, Right, Above, Below}
use Rattle.book.specs.Rows.{Earlier, Told, left, right, above, below, Row}
use Rattle.book.specs.Places.{Places, by_places}
use Rattle.book.specs.Sequence.{Inverse}
use Rattle.book.proofs.Standing.{row_has}
use Rattle.book.proofs.Tables.{none_breaks}

module _ (n : ℕ) (row places : List ℕ) (long : length row ≡ n) (inv : Inverse n row places) where
  pub inverse_row : Row n row
  inverse_row = record {
    long = long;
    whole = λ i b. let h : i < n = omega (arith, b.0) in none_breaks n n row places (λ j k. (inv.cells j k, inv.back j k)) i h b;
  }

  -- each cell stands somewhere in the row, and the table says where
  pub standing : (a : ℕ) → a < n → (get_or places a 0 < n) × (get_or row (get_or places a 0) 0 ≡ a)
  standing a h =
      let at = row_has n row inverse_row a h in
      let before : at.0 < n = let k = at.1 in omega arith in
      let place : get_or places a 0 ≡ at.0 = ap (λ c. get_or places c 0) (sym at.2) ∙ inv.back at.0 before in
      (omega arith, ap (λ j. get_or row j 0) place ∙ at.2)

  pub inverse_places : Places n places
  inverse_places = record {
    long = inv.long;
    within = λ a h. (standing a h).0;
    once = λ a b h. sym (standing a h.0).1 ∙ ap (λ j. get_or row j 0) h.2 ∙ (standing b h.1).1;
  }

  pub earlier : (a b : ℕ) → a < n → b < n → get_or places a 0 < get_or places b 0 → Earlier row a b
  earlier a b p q less = record {
    i = get_or places a 0;
    j = get_or places b 0;
    ahead = less;
    inside = let z = (standing b q).0 in omega arith;
    here = (standing a p).1;
    there = (standing b q).1;
  }

-- two different places are one before the other
split : (p q : ℕ) → (p ≡ q → ⊥) → (p < q) ⊎ (q < p)
split p q ne = ⊎_elim (λ (l : p < q). inl l) (λ (g : q ≤ p). inr (omega arith)) (cases_lt p q)

-- the places of two different cells in two rows compare as the rows tell
pub told_by_places : (n : ℕ) (first second p q : List ℕ) → length first ≡ n → length second ≡ n → Inverse n first p → Inverse n second q → (a b : ℕ) → a < n → b < n → (a ≡ b → ⊥) → Told first second a b (by_places p q a b)
told_by_places n first second p q long_first long_second inv_p inv_q a b a_in b_in differ =
    let P : Relation → Type 0 = Told first second a b in
    let one = earlier n first p long_first inv_p in
    let two = earlier n second q long_second inv_q in
    let apart_p : get_or p a 0 ≡ get_or p b 0 → ⊥ = λ e. differ ((inverse_places n first p long_first inv_p).once a b (a_in, b_in, e)) in
    let apart_q : get_or q a 0 ≡ get_or q b 0 → ⊥ = λ e. differ ((inverse_places n second q long_second inv_q).once a b (a_in, b_in, e)) in
    ⊎_elim
    (λ (pl : get_or p a 0 < get_or p b 0).
    ⊎_elim
    (λ (ql : get_or q a 0 < get_or q b 0). let e : Left ≡ by_places p q a b = grind (arith, nat_tests) in subst P e (left (one a b a_in b_in pl) (two a b a_in b_in ql)))
    (λ (qg : get_or q b 0 < get_or q a 0). let e : Above ≡ by_places p q a b = grind (arith, nat_tests) in subst P e (above (one a b a_in b_in pl) (two b a b_in a_in qg)))
    (split (get_or q a 0) (get_or q b 0) apart_q))
    (λ (pg : get_or p b 0 < get_or p a 0).
    ⊎_elim
    (λ (ql : get_or q a 0 < get_or q b 0). let e : Below ≡ by_places p q a b = grind (arith, nat_tests) in subst P e (below (one b a b_in a_in pg) (two a b a_in b_in ql)))
    (λ (qg : get_or q b 0 < get_or q a 0). let e : Right ≡ by_places p q a b = grind (arith, nat_tests) in subst P e (right (one b a b_in a_in pg) (two b a b_in a_in qg)))
    (split (get_or q a 0) (get_or q b 0) apart_q))
    (split (get_or p a 0) (get_or p b 0) apart_p)
