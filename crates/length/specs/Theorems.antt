-- What holds of every kind of length, from its laws alone. Assumes nothing.
use Rattle.std.specs.Prelude.{◌≡◌, ℕ, ◌+◌, ◌<◌, Bool, true, false}
use Rattle.length.specs.Kind.{Kind, Even}
use Rattle.length.specs.Join.{IsJoin}

-- (a ∨ b) + c = (a + c) ∨ (b + c)
abbrev pub JoinDistributes : {V : Type 0} → Kind V → Type 0
JoinDistributes {V} k = (a b c : V) → k.plus (k.join a b) c ≡ k.join (k.plus a c) (k.plus b c)

-- a + a ≤ b + b only where a ≤ b
abbrev pub DoublingReflects : {V : Type 0} → Kind V → Type 0
DoublingReflects {V} k = (a b : V) → k.at_most (k.plus a a) (k.plus b b) → k.at_most a b

-- where s + t = m + m, the lower half of s and the upper half of t make m
abbrev pub HalvesMeet : {V : Type 0} → Kind V → Type 0
HalvesMeet {V} k = (s t m : V) → k.plus s t ≡ k.plus m m → k.plus (k.lower s) (k.upper t) ≡ m

-- both halves keep the order, the lower is at most the upper, and together they make the whole
pub record HalvesOrdered {V : Type 0} (k : Kind V) : Type 0 where
  pub lower_keeps : (a b : V) → k.at_most a b → k.at_most (k.lower a) (k.lower b)
  pub upper_keeps : (a b : V) → k.at_most a b → k.at_most (k.upper a) (k.upper b)
  pub lower_at_most_upper : (a : V) → k.at_most (k.lower a) (k.upper a)
  pub halves_make : (a : V) → k.plus (k.lower a) (k.upper a) ≡ a

-- adding w + w adds w to either half
pub record HalvesShift {V : Type 0} (k : Kind V) : Type 0 where
  pub lower_shift : (s w : V) → k.lower (k.plus s (k.plus w w)) ≡ k.plus (k.lower s) w
  pub upper_shift : (s w : V) → k.upper (k.plus s (k.plus w w)) ≡ k.plus (k.upper s) w

-- h is the least length whose double d is at most, and is itself at most d
pub record UpperHalf {V : Type 0} (k : Kind V) (d h : V) : Type 0 where
  pub covers : k.at_most d (k.plus h h)
  pub least : (g : V) → k.at_most d (k.plus g g) → k.at_most h g
  pub within : k.at_most h d

abbrev pub UpperHalfLeast : {V : Type 0} → Kind V → Type 0
UpperHalfLeast {V} k = (d : V) → UpperHalf k d (k.upper d)

-- a length is even exactly where it is twice another, and then it is twice its half
pub record EvenDoubles {V : Type 0} (k : Kind V) : Type 0 where
  pub even_double : (a : V) → Even k a → a ≡ k.plus (k.lower a) (k.lower a)
  pub double_even : (a b : V) → a ≡ k.plus b b → Even k a

-- the places below n that are chosen
abbrev pub Chosen : (ℕ → Bool) → ℕ → ℕ → Type 0
Chosen chosen n i = (i < n) × (chosen i ≡ true)

-- least upper bounds: one at most, and made place by place
pub record JoinsMade {V : Type 0} (k : Kind V) (chosen : ℕ → Bool) (f : ℕ → V) : Type 0 where
  pub only : (n : ℕ) (s t : V) → IsJoin k (Chosen chosen n) f s → IsJoin k (Chosen chosen n) f t → s ≡ t
  pub none : IsJoin k (Chosen chosen 0) f k.zero
  pub more : (n : ℕ) (t : V) → IsJoin k (Chosen chosen n) f t → chosen n ≡ true → IsJoin k (Chosen chosen (n + 1)) f (k.join t (f n))
  pub skip : (n : ℕ) (t : V) → IsJoin k (Chosen chosen n) f t → chosen n ≡ false → IsJoin k (Chosen chosen (n + 1)) f t

abbrev pub JoinsStand : {V : Type 0} → Kind V → Type 0
JoinsStand {V} k = (chosen : ℕ → Bool) (f : ℕ → V) → JoinsMade k chosen f
