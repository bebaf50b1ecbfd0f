-- What the laws of an order give of left and above by themselves: neither holds of a cell and itself, neither turns
-- round, the two exclude each other, and both are decided.
use Rattle.std.specs.Prelude.{◌≡◌, ℕ, ◌<◌, refl}
use Rattle.std.proofs.Common.{sym}
use Rattle.std.proofs.Math.Decide.{ℕ_discrete, dec_lt}
use Rattle.book.specs.declared.relation.Relation.TheVariants.{Left, Above}
use Rattle.book.specs.Order.{Order, Apart, LeftOf, AboveOf, Lie, left, right, above, below, Laws}

pub apart_turned : {o : Order} {a b : ℕ} → Apart o a b → Apart o b a
apart_turned h = record { a_in = h.b_in; b_in = h.a_in; differ = λ e. h.differ (sym e) }

pub left_not_self : {o : Order} {a : ℕ} → LeftOf o a a → ⊥
left_not_self h = h.apart.differ refl

pub above_not_self : {o : Order} {a : ℕ} → AboveOf o a a → ⊥
above_not_self h = h.apart.differ refl

pub left_not_above : {o : Order} {a b : ℕ} → LeftOf o a b → AboveOf o a b → ⊥
left_not_above {o} {a} {b} h k =
    let l : o.rel a b ≡ Left = h.told in
    let t : o.rel a b ≡ Above = k.told in
    cc

module _ {o : Order} (laws : Laws o) where
  pub left_turns_not : {a b : ℕ} → LeftOf o a b → LeftOf o b a → ⊥
  left_turns_not {a} {b} h k =
      let l : o.rel a b ≡ Left = h.told in
      let t : o.rel b a ≡ Left = k.told in
      let c = laws.converse a b h.apart in
      cc

  pub above_turns_not : {a b : ℕ} → AboveOf o a b → AboveOf o b a → ⊥
  above_turns_not {a} {b} h k =
      let l : o.rel a b ≡ Above = h.told in
      let t : o.rel b a ≡ Above = k.told in
      let c = laws.converse a b h.apart in
      cc

  pub left_not_below : {a b : ℕ} → LeftOf o a b → AboveOf o b a → ⊥
  left_not_below {a} {b} h k =
      let l : o.rel a b ≡ Left = h.told in
      let t : o.rel b a ≡ Above = k.told in
      let c = laws.converse a b h.apart in
      cc

  pub left_trans : {a b c : ℕ} → LeftOf o a b → LeftOf o b c → LeftOf o a c
  left_trans {a} {b} {c} = laws.left_transitive a b c

  pub above_trans : {a b c : ℕ} → AboveOf o a b → AboveOf o b c → AboveOf o a c
  above_trans {a} {b} {c} = laws.above_transitive a b c

  -- Decisions

  left_of_lie : {a b : ℕ} → Lie o a b → Dec (LeftOf o a b)
  left_of_lie (left h) = yes h
  left_of_lie (right h) = no (λ k. left_turns_not k h)
  left_of_lie (above h) = no (λ k. left_not_above k h)
  left_of_lie (below h) = no (λ k. left_not_below k h)

  above_of_lie : {a b : ℕ} → Lie o a b → Dec (AboveOf o a b)
  above_of_lie (left h) = no (λ k. left_not_above h k)
  above_of_lie (right h) = no (λ k. left_not_below h k)
  above_of_lie (above h) = yes h
  above_of_lie (below h) = no (λ k. above_turns_not k h)

  pub apart? : (a b : ℕ) → Dec (Apart o a b)
  apart? a b = go (dec_lt a o.count) (dec_lt b o.count) (ℕ_discrete a b)
    where
      go : Dec (a < o.count) → Dec (b < o.count) → Dec (a ≡ b) → Dec (Apart o a b)
      go (no out) _ _ = no (λ h. out h.a_in)
      go (yes i) (no out) _ = no (λ h. out h.b_in)
      go (yes i) (yes j) (yes e) = no (λ h. h.differ e)
      go (yes i) (yes j) (no ne) = yes (record { a_in = i; b_in = j; differ = ne })

  pub left? : (a b : ℕ) → Dec (LeftOf o a b)
  left? a b = elim (apart? a b) [ yes h ↦ left_of_lie (laws.total a b h) | no not ↦ no (λ k. not k.apart) ]

  pub above? : (a b : ℕ) → Dec (AboveOf o a b)
  above? a b = elim (apart? a b) [ yes h ↦ above_of_lie (laws.total a b h) | no not ↦ no (λ k. not k.apart) ]
