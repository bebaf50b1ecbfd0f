-- A placing in lists made for it: the lists are as long as it asks for, and the answer has them as they were filled.
use Rattle.std.proofs.Common.{◌≡◌, ◌+◌, List, length, Ok, Err, vec_items, sym, refl, subst, arith}
use Rattle.refusal.specs.declared.fault.SheetFault.{SheetFault}
use Rattle.length.specs.Kind.{Kind}
use Rattle.placement.specs.Meaning.{Meaning}
use Rattle.placing.specs.Placing.{Five, five, Placing, misfitting, unlawful}
use Rattle.sheet.specs.declared.steps.Answer.TheVariants as answer
use Rattle.sheet.specs.declared.steps.Coordinates.{Coordinates}
use Rattle.sheet.specs.Runs.{Blank, PlacedAnew, placed, unplaced}

-- a refused placing changed no list
refused_same : {V : Type 0} {k : Kind V} {m : Meaning} {l r : Five V} {f : SheetFault} → Placing k m l r (Err f) → Placing k m l l (Err f)
refused_same (misfitting bad same) = misfitting bad refl
refused_same (unlawful fit bad same) = unlawful fit bad refl

module _ {V : Type 0} (k : Kind V) (m : Meaning) (w h work x y work' x' y' : List V) (work_long : length work ≡ m.order.count + m.order.count) (x_long : length x ≡ m.order.count) (y_long : length y ≡ m.order.count) where
  blank : Blank m.order.count (five w h work x y)
  blank = record { work_length = omega arith; x_length = x_long; y_length = y_long }

  pub anew_placed : (c : Coordinates V) → vec_items c.work ≡ work' → vec_items c.x ≡ x' → vec_items c.y ≡ y' → Placing k m (five w h work x y) (five w h work' x' y') (Ok c.extent) → PlacedAnew k m w h (answer.Placed c)
  anew_placed c e f g so =
      placed {work = work} {x = x} {y = y} blank
      (subst (λ (a : List V). Placing k m (five w h work x y) (five w h a (vec_items c.x) (vec_items c.y)) (Ok c.extent)) (sym e)
      (subst (λ (b : List V). Placing k m (five w h work x y) (five w h work' b (vec_items c.y)) (Ok c.extent)) (sym f)
      (subst (λ (d : List V). Placing k m (five w h work x y) (five w h work' x' d) (Ok c.extent)) (sym g) so)))

  pub anew_refused : (f : SheetFault) → Placing k m (five w h work x y) (five w h work' x' y') (Err f) → PlacedAnew k m w h (answer.Refused f)
  anew_refused f so = unplaced {work = work} {x = x} {y = y} blank (refused_same so)
