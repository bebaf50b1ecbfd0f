-- A kind of length, as the values meant: a sum of any size is one. Its operations, and the laws they obey. Assumes nothing.
use Rattle.std.specs.Prelude.{◌≡◌, ℕ, ◌+◌, ◌≤◌, max}

-- the greatest measure of a size: no cell is wider or higher
abbrev pub largest_size : ℕ
largest_size = 1048576

-- the greatest sum of two measures for which the sum of two lengths is answered
abbrev pub sum_limit : ℕ
sum_limit = 1073741824

-- what the calls of a kind of length mean
pub record Kind (V : Type 0) : Type 1 where
  pub at_most : V → V → Type 0
  pub zero : V
  pub plus : V → V → V
  -- the least length that both are at most
  pub join : V → V → V
  -- minus b a makes a up to b, where a is at most b
  pub minus : V → V → V
  -- the greatest length whose double is at most this
  pub lower : V → V
  -- the least length whose double this is at most
  pub upper : V → V
  pub measure : V → ℕ
  -- a lawful width or height of a cell
  pub size : V → Type 0

-- what every kind of length obeys, and all that other code knows of it
pub record Laws {V : Type 0} (k : Kind V) : Type 0 where
  -- Order: reflexive, antisymmetric, transitive, with zero least
  pub at_most_same : (a : V) → k.at_most a a
  pub at_most_both : (a b : V) → k.at_most a b → k.at_most b a → a ≡ b
  pub at_most_trans : (a b c : V) → k.at_most a b → k.at_most b c → k.at_most a c
  pub zero_least : (a : V) → k.at_most k.zero a
  -- The join is the least upper bound of two
  pub join_left : (a b : V) → k.at_most a (k.join a b)
  pub join_right : (a b : V) → k.at_most b (k.join a b)
  pub join_least : (a b c : V) → k.at_most a c → k.at_most b c → k.at_most (k.join a b) c
  -- Sum: associative, commutative, zero neutral; a + c ≤ b + c exactly where a ≤ b
  pub plus_assoc : (a b c : V) → k.plus (k.plus a b) c ≡ k.plus a (k.plus b c)
  pub plus_comm : (a b : V) → k.plus a b ≡ k.plus b a
  pub plus_zero : (a : V) → k.plus a k.zero ≡ a
  pub plus_keeps : (a b c : V) → k.at_most a b → k.at_most (k.plus a c) (k.plus b c)
  pub plus_cancels : (a b c : V) → k.at_most (k.plus a c) (k.plus b c) → k.at_most a b
  -- The difference is the only length that makes a up to b
  pub minus_makes : (a b : V) → k.at_most a b → k.plus a (k.minus b a) ≡ b
  pub minus_only : (a b d : V) → k.at_most a b → k.plus a d ≡ b → d ≡ k.minus b a
  -- The lower half is the greatest whose double is at most a, the upper the least whose double a is at most; both halves of b + b are b
  pub lower_below : (a : V) → k.at_most (k.plus (k.lower a) (k.lower a)) a
  pub lower_greatest : (a g : V) → k.at_most (k.plus g g) a → k.at_most g (k.lower a)
  pub upper_above : (a : V) → k.at_most a (k.plus (k.upper a) (k.upper a))
  pub upper_least : (a g : V) → k.at_most a (k.plus g g) → k.at_most (k.upper a) g
  pub lower_double : (b : V) → k.lower (k.plus b b) ≡ b
  pub upper_double : (b : V) → k.upper (k.plus b b) ≡ b
  -- No size is at most zero, and none measures more than the largest
  pub size_some : (a : V) → k.size a → k.at_most a k.zero → ⊥
  pub size_small : (a : V) → k.size a → k.measure a ≤ largest_size
  -- The measure keeps the order; of a sum it is at most the sum, of a join at most the larger
  pub measure_keeps : (a b : V) → k.at_most a b → k.measure a ≤ k.measure b
  pub measure_plus : (a b : V) → k.measure (k.plus a b) ≤ k.measure a + k.measure b
  pub measure_join : (a b : V) → k.measure (k.join a b) ≤ max (k.measure a) (k.measure b)

-- both halves of a are alike
abbrev pub Even : {V : Type 0} → Kind V → V → Type 0
Even k a = k.lower a ≡ k.upper a
