-- Answers that may be missing: one that cannot be is there, and one that is there has all that is said of it.
use Rattle.std.proofs.Common.{IsSomeAnd, IfSome, Some, None, Option, MatchOption}

module _ {V : Type 0} where
  pub present : {P : Type 0} {Q R : V → Type 0} (r : Option V) → (P → ⊥) → ((x : V) → Q x → R x) → MatchOption r P Q → IsSomeAnd r R
  present None not so h = not h
  present (Some x) not so h = so x h

  -- where it is there under A and B, its absence refutes them
  pub absent_refutes : {A B : Type 0} {Q R : V → Type 0} (S : V → Type 0) (r : Option V) → (A → B → IsSomeAnd r S) → ((x : V) → Q x → R x) → IfSome r Q → MatchOption r (A → B → ⊥) R
  absent_refutes S None there so h = there
  absent_refutes S (Some x) there so h = so x h

  pub present_both : {Q R S : V → Type 0} (r : Option V) → ((x : V) → Q x → R x → S x) → IfSome r Q → IsSomeAnd r R → IsSomeAnd r S
  present_both None so h k = k
  present_both (Some x) so h k = so x h k
