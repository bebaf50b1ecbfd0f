-- What the digits of a set's number say of its members. Assumes nothing.
use Rattle.std.proofs.Common.{◌≡◌, ℕ, ◌-◌, ◌/◌, ◌%◌, ◌^◌, ◌<◌, ◌≤◌, ◌⊎◌, sym, ap, ◌∙◌, subst, inl, inr, ⊎_elim, arith}
use lib.Bits.{bit_and, bit_or, and_le_r}
use lib.Count.{count_trailing_zeros}
use Rattle.std.proofs.lemmas.Bool.{cases_eq, cases_lt}
use Rattle.graph.specs.declared.node_set.NodeSet.{NodeSet}
use Rattle.graph.specs.Nodes.{Has, most_nodes}
use Rattle.graph.specs.Members.{Inserted, Taken}
use Rattle.graph.proofs.Digits.{digit_past, one_digit_same, one_digit_other, or_has, or_has_left, or_has_right, Lowest, lowest_taken}

pub has_below : (s : NodeSet) (u : ℕ) → s.0 < 2 ^ most_nodes → Has s u → u < most_nodes
has_below s u h has = ⊎_elim
    (λ (low : u < most_nodes). low)
    (λ (high : most_nodes ≤ u). let z : s.0 / 2 ^ u % 2 ≡ 0 = digit_past most_nodes s.0 u h high in absurd (omega arith))
    (cases_lt u most_nodes)

pub inserted : (s t : NodeSet) (u : ℕ) → t.0 ≡ bit_or s.0 (2 ^ u) → Inserted s t u
inserted s t u e = record {
  kept = λ w h. ap (λ x. x / 2 ^ w % 2) e ∙ or_has_left s.0 (2 ^ u) w h;
  only = λ w h. ⊎_elim (λ (old : Has s w). inl old) (λ (new : 2 ^ u / 2 ^ w % 2 ≡ 1). new_one w new) (or_has s.0 (2 ^ u) w (ap (λ x. x / 2 ^ w % 2) (sym e) ∙ h));
  there = λ _. ap (λ x. x / 2 ^ u % 2) e ∙ or_has_right s.0 (2 ^ u) u (one_digit_same u);
}
  where
    new_one : (w : ℕ) → 2 ^ u / 2 ^ w % 2 ≡ 1 → Has s w ⊎ (w ≡ u)
    new_one w h = ⊎_elim
        (λ (same : w ≡ u). inr same)
        (λ (ne : w ≡ u → ⊥). let z : 2 ^ u / 2 ^ w % 2 ≡ 0 = one_digit_other u w ne in absurd (omega arith))
        (cases_eq w u)

pub taken : (s t : NodeSet) (u : ℕ) → 0 < s.0 → s.0 < 2 ^ most_nodes → u ≡ count_trailing_zeros most_nodes s.0 → t.0 ≡ bit_and s.0 (s.0 - 1) → Taken s t u
taken s t u some fits e m = record {
  member = low.here;
  lowest = low.first;
  only = λ w h. ⊎_elim
      (λ (same : w ≡ u). let z : t.0 / 2 ^ w % 2 ≡ 0 = ap (λ x. t.0 / 2 ^ x % 2) same ∙ low.gone in absurd (omega arith))
      (λ (ne : w ≡ u → ⊥). (sym (low.others w ne) ∙ h, ne))
      (cases_eq w u);
  kept = λ w h ne. low.others w ne ∙ h;
  falls = let less : bit_and s.0 (s.0 - 1) ≤ s.0 - 1 = and_le_r s.0 (s.0 - 1) in omega arith;
}
  where
    low : Lowest s.0 u t.0
    low = subst (λ x. Lowest s.0 x t.0) (sym e) (subst (λ x. Lowest s.0 (count_trailing_zeros most_nodes s.0) x) (sym m) (lowest_taken most_nodes s.0 some fits))
