-- One turn of reading a number: what the byte at its place makes of what was read, and that sums and products stay small.
use Rattle.std.proofs.Common.{◌≡◌, ℕ, zero, suc, ◌+◌, ◌-◌, ◌*◌, ◌^◌, ◌<◌, ◌≤◌, false, List, drop, Ok, sym, refl, ap, ◌∙◌, mul_assoc, mul_comm, mul-add, arith}
use Rattle.numbers.specs.Number.{Got, got, short, bad, more, unlawful, decode}
use Rattle.numbers.specs.Calls.{told, number_at}
use Rattle.std.proofs.lemmas.Bool.Decides.{nat_tests}

-- what was read of a number so far, a in n groups of which the next counts s, with what its other bytes read as
abbrev pub lift : ℕ → ℕ → ℕ → Got → Got
lift a s n (got v m) = got (a + s * v) (n + m)
lift a s n short = short
lift a s n bad = bad

-- a number whose last byte is b
pub number_ends : (file : List ℕ) (p a s i b : ℕ) → decode (drop p file) ≡ lift a s i (got b 1) → Ok (a + b * s, p + i + 1) ≡ number_at file p
number_ends file p a s i b d =
    let m = mul_comm s b in
    let q : p + (i + 1) ≡ p + i + 1 = omega arith in
    sym (ap (told file p) d ∙ rw (m, q))

pub lift_more : (a s n b : ℕ) (g : Got) → lift a s n (more b g) ≡ lift (a + (b - 128) * s) (s * 128) (n + 1) g
lift_more a s n b (got v m) =
    let d : s * (b - 128 + 128 * v) ≡ (b - 128) * s + s * 128 * v = mul-add s (b - 128) (128 * v) ∙ rw (mul_comm s (b - 128), mul_assoc s 128 v) in
    let e : a + s * (b - 128 + 128 * v) ≡ a + (b - 128) * s + s * 128 * v = omega arith in
    let f : n + (m + 1) ≡ n + 1 + m = omega arith in
    rw (e, f)
lift_more a s n b short = refl
lift_more a s n b bad = refl

bound : (i a g : ℕ) → i < 5 → a < 128 ^ i → g < 128 → (i ≡ 4 → g ≤ 15) → a + g * 128 ^ i < 2 ^ 32
bound zero a g h l m t = omega arith
bound (suc zero) a g h l m t = omega arith
bound (suc (suc zero)) a g h l m t = omega arith
bound (suc (suc (suc zero))) a g h l m t = omega arith
bound (suc (suc (suc (suc zero)))) a g h l m t = omega (arith, t refl)
bound (suc (suc (suc (suc (suc i))))) a g h l m t = omega arith

grows : (i a g : ℕ) → i < 4 → a < 128 ^ i → g < 128 → (a + g * 128 ^ i < 128 ^ i * 128) × (128 ^ i * 128 < 2 ^ 32) × (128 ^ i * 128 ≡ 128 ^ (i + 1))
grows zero a g h l m = (omega arith, omega arith, refl)
grows (suc zero) a g h l m = (omega arith, omega arith, refl)
grows (suc (suc zero)) a g h l m = (omega arith, omega arith, refl)
grows (suc (suc (suc zero))) a g h l m = (omega arith, omega arith, refl)
grows (suc (suc (suc (suc i)))) a g h l m = omega arith

pub lawful_last : (i b : ℕ) → unlawful i b ≡ false → i ≡ 4 → b ≤ 15
lawful_last i b u e = grind (arith, nat_tests)

pub bound_at : (i a g sc : ℕ) → sc ≡ 128 ^ i → i < 5 → a < sc → g < 128 → (i ≡ 4 → g ≤ 15) → a + g * sc < 2 ^ 32
bound_at i a g sc e h l m t = let l' : a < 128 ^ i = omega arith in rw e (bound i a g h l' m t)

pub grows_at : (i a g sc : ℕ) → sc ≡ 128 ^ i → i < 4 → a < sc → g < 128 → (a + g * sc < sc * 128) × (sc * 128 < 2 ^ 32) × (sc * 128 ≡ 128 ^ (i + 1))
grows_at i a g sc e h l m = let l' : a < 128 ^ i = omega arith in rw e (grows i a g h l' m)

pub not_last : (i b : ℕ) → unlawful i b ≡ false → 128 ≤ b → i < 5 → i < 4
not_last i b u h l = grind (arith, nat_tests)
