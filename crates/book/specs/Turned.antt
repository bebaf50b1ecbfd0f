-- A turned order is an order: what is asked of a turn is that it keeps the four answers, undoes itself and turns
-- opposites into opposites.
use Rattle.std.specs.Prelude.{◌≡◌, ℕ, refl}
use Rattle.std.proofs.Common.{sym, ap, subst, ◌∙◌}
use Rattle.book.specs.declared.relation.Relation.{Relation}
use Rattle.book.specs.declared.relation.Relation.TheVariants.{Left, Right, Above, Below}
use Rattle.book.specs.Order.{Order, Apart, LeftOf, AboveOf, Lie, Laws, SameOrder, opposite}
use Rattle.book.specs.Order as order
use Rattle.book.specs.Turns.{transpose, flip, turned}
use Rattle.book.specs.Orders.{apart_turned}

-- the four answers for two different cells
pub data Way : Relation → Type 0 where
  left : Way Left
  right : Way Right
  above : Way Above
  below : Way Below

-- s is how a lies to b
pub record Is (o : Order) (s : Relation) (a b : ℕ) : Type 0 where
  pub apart : Apart o a b
  pub told : o.rel a b ≡ s

module _ {o : Order} (laws : Laws o) where
  is_back : {s : Relation} {a b : ℕ} → Is o s a b → Is o (opposite s) b a
  is_back {s} {a} {b} i = record { apart = apart_turned i.apart; told = laws.converse a b i.apart ∙ ap opposite i.told }

  is_left_transitive : {a b c : ℕ} → Is o Left a b → Is o Left b c → Is o Left a c
  is_left_transitive {a} {b} {c} i j =
      let h = laws.left_transitive a b c (record { apart = i.apart; told = i.told }) (record { apart = j.apart; told = j.told }) in
      record { apart = h.apart; told = h.told }

  is_above_transitive : {a b c : ℕ} → Is o Above a b → Is o Above b c → Is o Above a c
  is_above_transitive {a} {b} {c} i j =
      let h = laws.above_transitive a b c (record { apart = i.apart; told = i.told }) (record { apart = j.apart; told = j.told }) in
      record { apart = h.apart; told = h.told }

  -- each of the four is transitive
  is_transitive : {s : Relation} {a b c : ℕ} → Way s → Is o s a b → Is o s b c → Is o s a c
  is_transitive left i j = is_left_transitive i j
  is_transitive above i j = is_above_transitive i j
  is_transitive right i j = is_back (is_left_transitive (is_back j) (is_back i))
  is_transitive below i j = is_back (is_above_transitive (is_back j) (is_back i))

  -- one of the four holds of two different cells
  way_of : (a b : ℕ) → Lie o a b → Way (o.rel a b)
  way_of a b (order.left h) = subst Way (sym h.told) left
  way_of a b (order.right h) = subst Way (sym (is_back (record { apart = h.apart; told = h.told })).told) right
  way_of a b (order.above h) = subst Way (sym h.told) above
  way_of a b (order.below h) = subst Way (sym (is_back (record { apart = h.apart; told = h.told })).told) below

-- and so they lie in one of the four ways
lie_of : (o : Order) → ((a b : ℕ) → Apart o a b → o.rel b a ≡ opposite (o.rel a b)) → {s : Relation} {a b : ℕ} → Way s → Apart o a b → o.rel a b ≡ s → Lie o a b
lie_of o converse left d e = order.left (record { apart = d; told = e })
lie_of o converse {s} {a} {b} right d e = order.right (record { apart = apart_turned d; told = converse a b d ∙ ap opposite e })
lie_of o converse above d e = order.above (record { apart = d; told = e })
lie_of o converse {s} {a} {b} below d e = order.below (record { apart = apart_turned d; told = converse a b d ∙ ap opposite e })

-- what a turn keeps
pub record Turn (f : Relation → Relation) : Type 0 where
  pub ways : {s : Relation} → Way s → Way (f s)
  pub back : {s : Relation} → Way s → f (f s) ≡ s
  pub opposites : {s : Relation} → Way s → f (opposite s) ≡ opposite (f s)

module _ {f : Relation → Relation} (turn : Turn f) (o : Order) (laws : Laws o) where
  abbrev new : Order
  new = turned f o

  old_apart : {a b : ℕ} → Apart new a b → Apart o a b
  old_apart d = record { a_in = d.a_in; b_in = d.b_in; differ = d.differ }

  new_apart : {a b : ℕ} → Apart o a b → Apart new a b
  new_apart d = record { a_in = d.a_in; b_in = d.b_in; differ = d.differ }

  way : {a b : ℕ} → Apart new a b → Way (o.rel a b)
  way {a} {b} d = way_of laws a b (laws.total a b (old_apart d))

  -- s in the turned order is the turn of s in the one under it
  under : {s : Relation} {a b : ℕ} → Way s → Apart new a b → new.rel a b ≡ s → Is o (f s) a b
  under {s} {a} {b} w d e = record { apart = old_apart d; told = sym (turn.back (way d)) ∙ ap f e }

  over : {s : Relation} {a b : ℕ} → Way s → Is o (f s) a b → new.rel a b ≡ s
  over w i = ap f i.told ∙ turn.back w

  still : {s : Relation} {a b c : ℕ} → Way s → Apart new a b → new.rel a b ≡ s → Apart new b c → new.rel b c ≡ s → Is o (f s) a c
  still w d e g h = is_transitive laws (turn.ways w) (under w d e) (under w g h)

  converse : (a b : ℕ) → Apart new a b → new.rel b a ≡ opposite (new.rel a b)
  converse a b d = ap f (laws.converse a b (old_apart d)) ∙ turn.opposites (way d)

  pub turned_laws : Laws (turned f o)
  turned_laws = record {
    some = laws.some;
    few = laws.few;
    total = λ a b d. lie_of new converse (turn.ways (way d)) d refl;
    converse = converse;
    left_transitive = λ a b c p q.
        let r = still left p.apart p.told q.apart q.told in record { apart = new_apart r.apart; told = over left r };
    above_transitive = λ a b c p q.
        let r = still above p.apart p.told q.apart q.told in record { apart = new_apart r.apart; told = over above r };
  }

  pub turned_back : SameOrder o (turned f (turned f o))
  turned_back = record { count = refl; each = λ x y d. turn.back (way (new_apart d)) }

pub transpose_turn : Turn transpose
transpose_turn = record {
  ways = elim [ left ↦ below | right ↦ above | above ↦ right | below ↦ left ];
  back = elim [ left ↦ refl | right ↦ refl | above ↦ refl | below ↦ refl ];
  opposites = elim [ left ↦ refl | right ↦ refl | above ↦ refl | below ↦ refl ];
}

pub flip_turn : Turn flip
flip_turn = record {
  ways = elim [ left ↦ right | right ↦ left | above ↦ above | below ↦ below ];
  back = elim [ left ↦ refl | right ↦ refl | above ↦ refl | below ↦ refl ];
  opposites = elim [ left ↦ refl | right ↦ refl | above ↦ refl | below ↦ refl ];
}
