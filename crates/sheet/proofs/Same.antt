-- What holds of a sheet holds of every sheet that means the same.
use Rattle.std.proofs.Common.{ℕ, sym, refl, ap, ◌∙◌, inl, inr, arith}
use Rattle.book.specs.Order.{Order, Apart, LeftOf, AboveOf, Lie, left, right, above, below, Laws, SameOrder, opposite}
use Rattle.book.specs.Orders.{apart_turned}
use Rattle.placement.specs.Meaning.{Meaning, Cell, Mate, Lawful}
use Rattle.placement.specs.Couples.{Forbidden, Clean, First}
use Rattle.sheet.specs.Sheets.{SameSheet}

-- Orders

pub order_refl : (o : Order) → SameOrder o o
order_refl o = record { count = refl; each = λ x y d. refl }

module _ {o q : Order} (same : SameOrder o q) where
  apart_there : {a b : ℕ} → Apart o a b → Apart q a b
  apart_there d =
      let n = same.count in
      record { a_in = omega (arith, d.a_in); b_in = omega (arith, d.b_in); differ = d.differ }

  apart_back : {a b : ℕ} → Apart q a b → Apart o a b
  apart_back d =
      let n = same.count in
      record { a_in = omega (arith, d.a_in); b_in = omega (arith, d.b_in); differ = d.differ }

  order_sym : SameOrder q o
  order_sym = record { count = sym same.count; each = λ x y d. sym (same.each x y (apart_back d)) }

  left_there : {a b : ℕ} → LeftOf o a b → LeftOf q a b
  left_there {a} {b} h = record { apart = apart_there h.apart; told = same.each a b h.apart ∙ h.told }

  above_there : {a b : ℕ} → AboveOf o a b → AboveOf q a b
  above_there {a} {b} h = record { apart = apart_there h.apart; told = same.each a b h.apart ∙ h.told }

  lie_there : {a b : ℕ} → Lie o a b → Lie q a b
  lie_there (left h) = left (left_there h)
  lie_there (right h) = right (left_there h)
  lie_there (above h) = above (above_there h)
  lie_there (below h) = below (above_there h)

laws_there : {o q : Order} → SameOrder o q → Laws o → Laws q
laws_there same laws =
    let back = order_sym same in
    let n = same.count in
    record {
      some = omega (arith, laws.some);
      few = omega (arith, laws.few);
      total = λ a b d. lie_there same (laws.total a b (apart_there back d));
      converse = λ a b d.
          let e = apart_there back d in
          same.each b a (apart_turned e) ∙ laws.converse a b e ∙ ap opposite (back.each a b d);
      left_transitive = λ a b c p q. left_there same (laws.left_transitive a b c (left_there back p) (left_there back q));
      above_transitive = λ a b c p q. above_there same (laws.above_transitive a b c (above_there back p) (above_there back q));
    }

pub order_trans : {o q r : Order} → SameOrder o q → SameOrder q r → SameOrder o r
order_trans p s = record { count = s.count ∙ p.count; each = λ x y d. s.each x y (apart_there p d) ∙ p.each x y d }

-- Sheets

pub same_refl : (m : Meaning) → SameSheet m m
same_refl m = record { order = order_refl m.order; mate = λ a h. refl }

module _ {m p : Meaning} (same : SameSheet m p) where
  cell_back : {a : ℕ} → Cell p a → Cell m a
  cell_back h = let n = same.order.count in omega arith

  pub same_sym : SameSheet p m
  same_sym = record { order = order_sym same.order; mate = λ a h. sym (same.mate a (cell_back h)) }

  mate_there : {a b : ℕ} → Mate m a b → Mate p a b
  mate_there {a} h =
      let n = same.order.count in
      record { cell = omega (arith, h.cell); told = same.mate a h.cell ∙ h.told }

  forbidden_there : {x y : ℕ} → Forbidden m x y → Forbidden p x y
  forbidden_there f = record {
    mx = f.mx;
    my = f.my;
    x_mate = mate_there f.x_mate;
    y_mate = mate_there f.y_mate;
    clash = elim f.clash [
      | inl h ↦ inl (left_there same.order h.0, left_there same.order h.1)
      | inr h ↦ inr (above_there same.order h.0, above_there same.order h.1)
    ];
  }

pub lawful_there : {m p : Meaning} → SameSheet m p → Lawful m → Lawful p
lawful_there same lawful = record {
  laws = laws_there same.order lawful.laws;
  both_ways = λ a b h. mate_there same (lawful.both_ways a b (mate_there (same_sym same) h));
}

pub clean_there : {m p : Meaning} → SameSheet m p → Clean m → Clean p
clean_there same clean x y f = clean x y (forbidden_there (same_sym same) f)

pub first_there : {m p : Meaning} {x y : ℕ} → SameSheet m p → First m x y → First p x y
first_there same f = record { here = forbidden_there same f.here; lowest = λ u v h. f.lowest u v (forbidden_there (same_sym same) h) }

pub same_trans : {m p q : Meaning} → SameSheet m p → SameSheet p q → SameSheet m q
same_trans s t = record { order = order_trans s.order t.order; mate = λ a h. t.mate a (cell_back (same_sym s) h) ∙ s.mate a h }
