-- Two lists of lengths that are as long as each other and of equal lengths, as they are read and as they are checked.
use Rattle.std.proofs.Common.{◌≡◌, ℕ, suc, ◌+◌, Bool, true, eqb, List, [], ◌∷◌, length, Ok, sym, refl, ap, ◌∙◌, arith}
use Rattle.std.proofs.lemmas.Bool.{and_parts, and_from, eqb-true, eq-eqb}
use Rattle.refusal.specs.declared.fault.SheetFault.TheVariants as sheet
use Rattle.formats.specs.Writing.{length_check, columns_check, each_of, are_long}
use Rattle.formats.proofs.Checks.{both_parts, both_from, passed, pass_from}
use Rattle.roundtrip.proofs.Cells.{Rows}

module _ (k : ℕ) where
  -- as many first as second lengths, each of k numbers
  pub record Level (us vs : List (List ℕ)) : Type 0 where
    pub same : length us ≡ length vs
    pub firsts : each_of k us ≡ true
    pub seconds : each_of k vs ≡ true

  pub checked_level : (n l : ℕ) (us vs : List (List ℕ)) → columns_check n k l us vs ≡ Ok tt → (length us ≡ n) × Level us vs
  checked_level n l us vs e =
      let b = both_parts (length_check (are_long n k us) l) (length_check (are_long n k vs) (l + 1)) e in
      let c = and_parts (eqb (length us) n) (each_of k us) (passed (are_long n k us) _ b.0) in
      let d = and_parts (eqb (length vs) n) (each_of k vs) (passed (are_long n k vs) _ b.1) in
      let x = eqb-true (length us) n c.0 in
      (x, record { same = x ∙ sym (eqb-true (length vs) n d.0); firsts = c.1; seconds = d.1 })

  pub level_checked : (n l : ℕ) (us vs : List (List ℕ)) → length us ≡ n → Level us vs → columns_check n k l us vs ≡ Ok tt
  level_checked n l us vs e h =
      let long : (ws : List (List ℕ)) → length ws ≡ n → each_of k ws ≡ true → are_long n k ws ≡ true = λ ws x y. and_from (eqb (length ws) n) (each_of k ws) (eq-eqb (length ws) n x) y in
      both_from (pass_from (sheet.ListLength l) (long us e h.firsts)) (pass_from (sheet.ListLength (l + 1)) (long vs (sym h.same ∙ e) h.seconds))

  pub level_more : (u v : List ℕ) (us vs : List (List ℕ)) → Level (u ∷ us) (v ∷ vs) → (length u ≡ k) × (length v ≡ k) × Level us vs
  level_more u v us vs l =
      let a = and_parts (eqb (length u) k) (each_of k us) l.firsts in
      let b = and_parts (eqb (length v) k) (each_of k vs) l.seconds in
      (eqb-true (length u) k a.0, eqb-true (length v) k b.0, record { same = omega (arith, l.same); firsts = a.1; seconds = b.1 })

  pub rows_level : (lawful : ℕ → Bool) (us vs : List (List ℕ)) → Rows lawful k us vs → Level us vs
  rows_level lawful [] [] r = record { same = refl; firsts = refl; seconds = refl }
  rows_level lawful [] (v ∷ vs) r = absurd r
  rows_level lawful (u ∷ us) [] r = absurd r
  rows_level lawful (u ∷ us) (v ∷ vs) r =
      let l = rows_level lawful us vs r.2 in
      record {
        same = ap suc l.same;
        firsts = and_from (eqb (length u) k) (each_of k us) (eq-eqb (length u) k r.0.0) l.firsts;
        seconds = and_from (eqb (length v) k) (each_of k vs) (eq-eqb (length v) k r.1.0) l.seconds;
      }
