-- Answers that decide, cell by cell.
use Rattle.std.specs.Prelude.{MatchBool}
use Rattle.std.specs.List.{range_with_len, AllWithin, HoldsAt}
use Rattle.std.proofs.Common.{◌≡◌, ℕ, ◌<◌, Bool, true, false, length, get_or, Decides, sym, refl, ◌∙◌, subst, arith}
use Rattle.std.proofs.lemmas.Bool.Decides.{Decides-like}
use Rattle.std.proofs.lemmas.List.FromFn.{length-range_with_len, get_or-range_with_len}
use Rattle.placement.specs.Meaning.{Meaning}
use Rattle.sheet.specs.Alike.{AlikeAt, AlikeSheets}

pub decides_no : {P : Type 0} → (P → ⊥) → Decides false P
decides_no not = ((λ (e : false ≡ true). absurd (let z : ◌≡◌ {A = ℕ} 0 1 = cc in omega arith)), λ p. absurd (not p))

pub decides_yes : {P : Type 0} → P → Decides true P
decides_yes p = (λ _. p, λ _. refl)

nth_below : (n x : ℕ) → x < n → get_or (range_with_len 0 n) x 0 ≡ x
nth_below n x h = let e = get_or-range_with_len 0 n x 0 h in omega arith

-- `all` over the numbers below n decides whether P holds of each
pub decides_below : (P : ℕ → Type 0) (n : ℕ) (r : Bool) → MatchBool r (AllWithin P (range_with_len 0 n) 0 (length (range_with_len 0 n))) ((k : ℕ) × (k < length (range_with_len 0 n)) × HoldsAt (λ x. P x → ⊥) (range_with_len 0 n) k) → Decides r ((x : ℕ) → x < n → P x)
decides_below P n true all =
    decides_yes (λ x h. subst P (nth_below n x h) (all x 0 (omega arith) (omega (arith, length-range_with_len 0 n))))
decides_below P n false found =
    let inside : found.0 < n = omega (arith, found.1, length-range_with_len 0 n) in
    decides_no (λ all. found.2 0 (subst P (sym (nth_below n found.0 inside)) (all found.0 inside)))

-- sheets of n cells are alike where they are alike at each cell, and only there
pub alike_decides : (m p : Meaning) (n : ℕ) (r : Bool) → n ≡ m.order.count → p.order.count ≡ n → Decides r ((a : ℕ) → a < n → AlikeAt m p n a) → Decides r (AlikeSheets m p)
alike_decides m p n r here there told =
    Decides-like r
    (λ all. record {
      order = record {
        count = there ∙ here;
        each = λ a b d. (all a (omega (arith, d.a_in))).each b (omega (arith, d.b_in)) d (record { a_in = omega (arith, d.a_in); b_in = omega (arith, d.b_in); differ = d.differ });
      };
      states = λ a h. (all a (omega arith)).states;
    })
    (λ like a h. record { states = like.states a (omega arith); each = λ b _ d _. like.order.each a b d })
    told
