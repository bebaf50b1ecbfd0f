-- Mates and forbidden couples, decided; and so what an edit comes to.
use Rattle.std.proofs.Common.{◌≡◌, ℕ, ◌<◌, ◌≤◌, Bool, true, false, ◌&&◌, ◌⊎◌, List, [], ◌∷◌, Some, Ok, Err, Result, refl, subst, inl, inr}
use Rattle.std.proofs.lemmas.Bool.{false≢true, and_parts}
use Rattle.refusal.specs.declared.fault.SheetFault.{SheetFault}
use Rattle.refusal.specs.declared.fault.SheetFault.TheVariants.{Unplaceable}
use Rattle.book.specs.Order.{LeftOf, AboveOf}
use Rattle.placement.specs.Meaning.{Meaning, Lawful}
use Rattle.placement.specs.Couples.{Forbidden, Clean, First}
use Rattle.placement.specs.Theorems.{CleanExactlyPlaceable}
use Rattle.sheet.specs.Edits.{Edit, after, checked, Edited, unplaceable, done}
use Rattle.sheet.proofs.Same.{same_refl}
use Rattle.worked.specs.Cases.{AllDone}
use Rattle.worked.proofs.Tests.{Test, so, like, both, either, lacks, gives, less, at_most, equal, every, named_so, named_all}
use Rattle.worked.proofs.Orders.{left?, above?, keeps?, keeps_laws_lem}

abbrev Clash : Meaning → ℕ → ℕ → ℕ → ℕ → Type 0
Clash m x y mx my = (LeftOf m.order x y × LeftOf m.order mx my) ⊎ (AboveOf m.order x y × AboveOf m.order my mx)

abbrev MatesClash : Meaning → ℕ → ℕ → Type 0
MatesClash m x y = (mx : ℕ) × (m.mate x ≡ Some mx) × ((my : ℕ) × (m.mate y ≡ Some my) × Clash m x y mx my)

pub clash_forbids : (m : Meaning) (x y : ℕ) → MatesClash m x y → Forbidden m x y
clash_forbids m x y (mx, x_told, (my, y_told, clash)) =
    let inside : (x < m.order.count) × (y < m.order.count) =
    elim clash [ inl s ↦ (s.0.apart.a_in, s.0.apart.b_in) | inr s ↦ (s.0.apart.a_in, s.0.apart.b_in) ] in
    record { mx = mx; my = my; x_mate = record { cell = inside.0; told = x_told }; y_mate = record { cell = inside.1; told = y_told }; clash = clash }

pub forbids_clash : (m : Meaning) (x y : ℕ) → Forbidden m x y → MatesClash m x y
forbids_clash m x y f = (f.mx, f.x_mate.told, (f.my, f.y_mate.told, f.clash))

abbrev pub forbidden? : (m : Meaning) (x y : ℕ) → Test (Forbidden m x y)
forbidden? m x y =
    like (clash_forbids m x y) (forbids_clash m x y)
    (named_so (m.mate x) (λ mx. named_so (m.mate y) (λ my.
    either (both (left? m.order x y) (left? m.order mx my)) (both (above? m.order x y) (above? m.order my mx)))))

abbrev cells : Meaning → ℕ
cells m = m.order.count

-- A lawful sheet

abbrev pub mates? : (m : Meaning) → Test ((a : ℕ) → a < cells m → (b : ℕ) → m.mate a ≡ Some b → (b < cells m) × ((c : ℕ) × (m.mate b ≡ Some c) × (c ≡ a)))
mates? m = every (cells m) (λ a. named_all (m.mate a) (λ b. both (less b (cells m)) (named_so (m.mate b) (λ c. equal c a))))

pub lawful : (m : Meaning) → (keeps? m.order).holds ≡ true → (mates? m).holds ≡ true → Lawful m
lawful m keeps mates = record {
  laws = keeps_laws_lem m.order (so (keeps? m.order) keeps);
  both_ways = λ a b mate.
      let (here, (c, told, back)) = so (mates? m) mates a mate.cell b mate.told in
      record { cell = here; told = subst (λ d. m.mate b ≡ Some d) back told };
}

-- No couple, or a first one

abbrev pub clean? : (m : Meaning) → Test ((x : ℕ) → x < cells m → (y : ℕ) → y < cells m → Forbidden m x y → ⊥)
clean? m = every (cells m) (λ x. every (cells m) (λ y. lacks (forbidden? m x y)))

pub clean : (m : Meaning) → (clean? m).holds ≡ true → Clean m
clean m e x y f = so (clean? m) e x f.x_mate.cell y f.y_mate.cell f

abbrev pub first? : (m : Meaning) (x y : ℕ) → Test (Forbidden m x y × ((u : ℕ) → u < cells m → (v : ℕ) → v < cells m → Forbidden m u v → (x < u) ⊎ ((x ≡ u) × (y ≤ v))))
first? m x y =
    both (forbidden? m x y)
    (every (cells m) (λ u. every (cells m) (λ v. gives (forbidden? m u v) (either (less x u) (both (equal x u) (at_most y v))))))

pub first : (m : Meaning) (x y : ℕ) → (first? m x y).holds ≡ true → First m x y
first m x y e =
    let h = so (first? m x y) e in
    record { here = h.0; lowest = λ u v f. h.1 u f.x_mate.cell v f.y_mate.cell f }

-- Edits

abbrev fine : Result (Unit {0}) SheetFault → Bool
fine (Ok _) = true
fine (Err f) = false

is_fine : (r : Result (Unit {0}) SheetFault) → fine r ≡ true → r ≡ Ok tt
is_fine (Ok _) e = refl
is_fine (Err f) e = absurd (false≢true e)

abbrev pub sound : Meaning → Bool
sound m = (keeps? m.order).holds && (mates? m).holds

abbrev pub does : Meaning → Edit → Bool
does m e = fine (checked m e) && (sound (after m e) && (clean? (after m e)).holds)

abbrev pub refused : Meaning → Edit → ℕ → ℕ → Bool
refused m e x y = fine (checked m e) && (sound (after m e) && (first? (after m e) x y).holds)

abbrev pub does_all : Meaning → List Edit → Bool
does_all m [] = true
does_all m (e ∷ es) = does m e && does_all (after m e) es

pub is_sound : (m : Meaning) → sound m ≡ true → Lawful m
is_sound m e = let h = and_parts _ _ e in lawful m h.0 h.1

module _ (theorem : CleanExactlyPlaceable) where
  pub is_refused : (m : Meaning) (e : Edit) (x y : ℕ) → refused m e x y ≡ true → Edited m e m (Err (Unplaceable x y))
  is_refused m e x y h =
      let p = and_parts _ _ h in
      let q = and_parts _ _ p.1 in
      let couple = first (after m e) x y q.1 in
      unplaceable (is_fine (checked m e) p.0) (λ has. (theorem (after m e) (is_sound (after m e) q.0)).1 has x y couple.here) couple (same_refl m)

  pub is_done : (m : Meaning) (e : Edit) → does m e ≡ true → Edited m e (after m e) (Ok tt)
  is_done m e h =
      let p = and_parts _ _ h in
      let q = and_parts _ _ p.1 in
      done (is_fine (checked m e) p.0) ((theorem (after m e) (is_sound (after m e) q.0)).0 (clean (after m e) q.1)) (same_refl (after m e))

  pub all_done : (m : Meaning) (es : List Edit) → does_all m es ≡ true → AllDone m es
  all_done m [] h = tt
  all_done m (e ∷ es) h = let p = and_parts _ _ h in (is_done m e p.0, all_done (after m e) es p.1)
