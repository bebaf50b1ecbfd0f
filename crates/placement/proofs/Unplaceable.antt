-- A forbidden couple leaves no placement: some size of it would be at most nothing.
use Rattle.std.proofs.Common.{◌≡◌, ℕ, sym, ap, ◌∙◌, inl, inr}
use Rattle.book.specs.Order.{LeftOf, AboveOf}
use Rattle.length.specs.Kind.{Kind, Laws}
use Rattle.length.proofs.Algebra.{plus_keeps_both, plus_crosswise, size_adds, at_most_plus_left}
use Rattle.placement.specs.Meaning.{Meaning, Mate}
use Rattle.placement.specs.Placements.{Sizes, Placement}
use Rattle.placement.specs.Theorems.{ForbiddenUnplaceable}

module _ {V : Type 0} {k : Kind V} (laws : Laws k) (m : Meaning) (w h x y : ℕ → V) (half : V) (sized : Sizes k m w h) (placed : Placement k m w h x y half) where
  -- the ends of two mates add up to the span and a width
  both_ends : (a b : ℕ) → Mate m a b → k.plus (k.plus (x a) (w a)) (k.plus (x b) (w b)) ≡ k.plus (k.plus half half) (w b)
  both_ends a b mate =
      plus_crosswise laws (x a) (w a) (x b) (w b)
      ∙ sym (laws.plus_assoc _ _ _)
      ∙ ap (λ (s : V). k.plus s (w b)) (placed.mirrored a b mate)

  -- the left edges of two mates add up to the span at most
  both_starts : (a b : ℕ) → Mate m a b → k.at_most (k.plus (x a) (x b)) (k.plus half half)
  both_starts a b mate = rw (sym (placed.mirrored a b mate)) (at_most_plus_left laws (k.plus (x a) (x b)) (w a))

  -- a left of b and a's mate left of b's mate: the span would hold one more width
  no_side_couple : (a b am bm : ℕ) → Mate m a am → Mate m b bm → LeftOf m.order a b → LeftOf m.order am bm → ⊥
  no_side_couple a b am bm a_mate b_mate left mates_left =
      let ends_before : k.at_most (k.plus (k.plus (x a) (w a)) (k.plus (x am) (w am))) (k.plus (x b) (x bm)) =
      plus_keeps_both laws _ _ _ _ (placed.beside a b left) (placed.beside am bm mates_left) in
      let too_wide : k.at_most (k.plus (k.plus half half) (w am)) (k.plus half half) =
      laws.at_most_trans _ _ _ (rw (both_ends a am a_mate) at ends_before) (both_starts b bm b_mate) in
      size_adds laws (k.plus half half) (w am) (sized.wide am mates_left.apart.a_in) too_wide

  -- a above b and b's mate above a's mate: b would stand above itself
  no_stack_couple : (a b am bm : ℕ) → Mate m a am → Mate m b bm → AboveOf m.order a b → AboveOf m.order bm am → ⊥
  no_stack_couple a b am bm a_mate b_mate over mates_over =
      let a_below_b : k.at_most (y a) (y b) =
      rw (placed.level a am a_mate, placed.level b bm b_mate)
      (laws.at_most_trans _ _ _ (at_most_plus_left laws (y am) (h am)) (placed.stacked bm am mates_over)) in
      size_adds laws (y b) (h b) (sized.high b over.apart.b_in) (laws.at_most_trans _ _ _ (placed.stacked a b over) a_below_b)

pub forbidden_unplaceable_lem : {V : Type 0} {k : Kind V} (laws : Laws k) → ForbiddenUnplaceable k
forbidden_unplaceable_lem laws m lawful unclean w h x y half sized placed =
    let a = unclean.0 in
    let b = unclean.1 in
    let couple = unclean.2 in
    elim couple.clash [
      | inl c ↦ no_side_couple laws m w h x y half sized placed a b couple.mx couple.my couple.x_mate couple.y_mate c.0 c.1
      | inr c ↦ no_stack_couple laws m w h x y half sized placed a b couple.mx couple.my couple.x_mate couple.y_mate c.0 c.1
    ]
