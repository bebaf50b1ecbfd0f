-- Binary digits: of a power of two, of a union, past the end, and the lowest one taken away. Assumes nothing.
use Rattle.std.proofs.Common.{◌≡◌, ℕ, zero, suc, ◌+◌, ◌-◌, ◌*◌, ◌/◌, ◌%◌, ◌^◌, ◌<◌, ◌≤◌, min, ◌⊎◌, sym, refl, ap, ◌∙◌, ap₂, inl, inr, suc-le-suc, zero-le, add-zero, pow-suc, div-one, one-add, arith, pow_pos, shr-shr}
use native.Mathlib.Nat.{zero-div, div_self, min-zero, zero-min}
use lib.Bits.{bit_and, bit_or, and_step, and_self, or_shr, or_mod, or_comm}
use lib.Count.{count_trailing_zeros, under}

abbrev digit : ℕ → ℕ → ℕ
digit n w = n / 2 ^ w % 2

digit_zero : (n : ℕ) → digit n 0 ≡ n % 2
digit_zero n = ap (λ x. x % 2) (div-one n)

digit-suc : (n w : ℕ) → digit n (suc w) ≡ digit (n / 2) w
digit-suc n w = ap (λ x. x % 2) (ap (λ e. n / 2 ^ e) (sym (one-add w)) ∙ sym (shr-shr n 1 w))

digit_below_two : (n w : ℕ) → digit n w < 2
digit_below_two n w = let x : ℕ = n / 2 ^ w in omega arith

-- Past the end

pub digit_past : (k n w : ℕ) → n < 2 ^ k → k ≤ w → digit n w ≡ 0
digit_past zero n w h le = let z : n ≡ 0 = omega arith in ap (λ x. x / 2 ^ w % 2) z ∙ ap (λ x. x % 2) (zero-div (2 ^ w))
digit_past (suc k) n zero h le = absurd (omega arith)
digit_past (suc k) n (suc w) h le =
    let p : 2 ^ suc k ≡ 2 ^ k * 2 = pow-suc 2 k in
    digit-suc n w ∙ digit_past k (n / 2) w (omega arith) (omega arith)

-- A power of two

pub one_digit_same : (u : ℕ) → digit (2 ^ u) u ≡ 1
one_digit_same u = ap (λ x. x % 2) (div_self (pow_pos u))

half_pow : (u : ℕ) → 2 ^ suc u / 2 ≡ 2 ^ u
half_pow u = let p : 2 ^ suc u ≡ 2 ^ u * 2 = pow-suc 2 u in omega arith

pub one_digit_other : (u w : ℕ) → (w ≡ u → ⊥) → digit (2 ^ u) w ≡ 0
one_digit_other zero zero ne = absurd (ne refl)
one_digit_other zero (suc w) ne = digit-suc 1 w ∙ ap (λ x. x % 2) (zero-div (2 ^ w))
one_digit_other (suc u) zero ne = let p : 2 ^ suc u ≡ 2 ^ u * 2 = pow-suc 2 u in digit_zero (2 ^ suc u) ∙ omega arith
one_digit_other (suc u) (suc w) ne = digit-suc (2 ^ suc u) w ∙ ap (λ x. digit x w) (half_pow u) ∙ one_digit_other u w (λ e. ne (ap suc e))

-- A union

or_digit : (a b w : ℕ) → digit (bit_or a b) w ≡ bit_or (digit a w) (digit b w)
or_digit a b w = ap (λ x. x % 2) (or_shr a b w) ∙ or_mod (a / 2 ^ w) (b / 2 ^ w) 1

or_one : (y : ℕ) → y < 2 → bit_or 1 y ≡ 1
or_one zero h = refl
or_one (suc zero) h = refl
or_one (suc (suc y)) h = absurd (omega arith)

or_either : (x y : ℕ) → x < 2 → bit_or x y ≡ 1 → (x ≡ 1) ⊎ (y ≡ 1)
or_either zero y h e = inr e
or_either (suc zero) y h e = inl refl
or_either (suc (suc x)) y h e = absurd (omega arith)

pub or_has_left : (a b w : ℕ) → digit a w ≡ 1 → digit (bit_or a b) w ≡ 1
or_has_left a b w h = or_digit a b w ∙ ap (λ x. bit_or x (digit b w)) h ∙ or_one (digit b w) (digit_below_two b w)

pub or_has_right : (a b w : ℕ) → digit b w ≡ 1 → digit (bit_or a b) w ≡ 1
or_has_right a b w h = ap (λ x. digit x w) (or_comm a b) ∙ or_has_left b a w h

pub or_has : (a b w : ℕ) → digit (bit_or a b) w ≡ 1 → (digit a w ≡ 1) ⊎ (digit b w ≡ 1)
or_has a b w h = or_either (digit a w) (digit b w) (digit_below_two a w) (sym (or_digit a b w) ∙ h)

-- The lowest digit taken away

-- u is the place of the lowest digit 1 of n, and m has the others
pub record Lowest (n u m : ℕ) : Type 0 where
  pub here : digit n u ≡ 1
  pub first : (w : ℕ) → digit n w ≡ 1 → u ≤ w
  pub gone : digit m u ≡ 0
  pub others : (w : ℕ) → (w ≡ u → ⊥) → digit m w ≡ digit n w

lowest_odd : (n : ℕ) → n % 2 ≡ 1 → Lowest n 0 (bit_and n (n - 1))
lowest_odd n e = record {
  here = digit_zero n ∙ e;
  first = λ w h. zero-le;
  gone = digit_zero _ ∙ ap (λ x. x % 2) made ∙ omega arith;
  others = others;
}
  where
    half : (n - 1) / 2 ≡ n / 2
    half = omega arith

    even : (n - 1) % 2 ≡ 0
    even = omega arith

    made : bit_and n (n - 1) ≡ n / 2 * 2
    made =
        and_step n (n - 1)
        ∙ ap₂ (λ x y. bit_and (n / 2) x * 2 + min (n % 2) y) half even
        ∙ ap₂ (λ x y. x * 2 + y) (and_self (n / 2)) (min-zero (n % 2))
        ∙ add-zero (n / 2 * 2)

    halved : bit_and n (n - 1) / 2 ≡ n / 2
    halved = ap (λ x. x / 2) made ∙ omega arith

    others : (w : ℕ) → (w ≡ 0 → ⊥) → digit (bit_and n (n - 1)) w ≡ digit n w
    others zero ne = absurd (ne refl)
    others (suc w) ne = digit-suc _ w ∙ ap (λ x. digit x w) halved ∙ sym (digit-suc n w)

lowest_even : (n u : ℕ) → 0 < n → n % 2 ≡ 0 → Lowest (n / 2) u (bit_and (n / 2) (n / 2 - 1)) → Lowest n (suc u) (bit_and n (n - 1))
lowest_even n u p e rest = record {
  here = digit-suc n u ∙ rest.here;
  first = first;
  gone = digit-suc _ u ∙ ap (λ x. digit x u) halved ∙ rest.gone;
  others = others;
}
  where
    half : (n - 1) / 2 ≡ n / 2 - 1
    half = omega arith

    made : bit_and n (n - 1) ≡ bit_and (n / 2) (n / 2 - 1) * 2
    made =
        and_step n (n - 1)
        ∙ ap₂ (λ x y. bit_and (n / 2) x * 2 + min y ((n - 1) % 2)) half e
        ∙ ap (λ x. bit_and (n / 2) (n / 2 - 1) * 2 + x) (zero-min ((n - 1) % 2))
        ∙ add-zero (bit_and (n / 2) (n / 2 - 1) * 2)

    halved : bit_and n (n - 1) / 2 ≡ bit_and (n / 2) (n / 2 - 1)
    halved = ap (λ x. x / 2) made ∙ omega arith

    first : (w : ℕ) → digit n w ≡ 1 → suc u ≤ w
    first zero h = let odd : n % 2 ≡ 1 = sym (digit_zero n) ∙ h in absurd (omega arith)
    first (suc w) h = suc-le-suc (rest.first w (sym (digit-suc n w) ∙ h))

    others : (w : ℕ) → (w ≡ suc u → ⊥) → digit (bit_and n (n - 1)) w ≡ digit n w
    others zero ne = digit_zero _ ∙ ap (λ x. x % 2) made ∙ omega arith ∙ sym (digit_zero n ∙ e)
    others (suc w) ne = digit-suc _ w ∙ ap (λ x. digit x w) halved ∙ rest.others w (λ q. ne (ap suc q)) ∙ sym (digit-suc n w)

pub lowest_taken : (k n : ℕ) → 0 < n → n < 2 ^ k → Lowest n (count_trailing_zeros k n) (bit_and n (n - 1))
unfolding count_trailing_zeros
lowest_taken zero n p h = absurd (omega arith)
lowest_taken (suc k) n p h =
    let q : 2 ^ suc k ≡ 2 ^ k * 2 = pow-suc 2 k in
    go (n % 2) refl (λ some. lowest_taken k (n / 2) some (omega arith))
  where
    go : (d : ℕ) → n % 2 ≡ d → (0 < n / 2 → Lowest (n / 2) (count_trailing_zeros k (n / 2)) (bit_and (n / 2) (n / 2 - 1))) → Lowest n (under d (count_trailing_zeros k (n / 2))) (bit_and n (n - 1))
    go zero e rest = lowest_even n (count_trailing_zeros k (n / 2)) p e (rest (omega arith))
    go (suc zero) e rest = lowest_odd n e
    go (suc (suc d)) e rest = absurd (omega arith)
