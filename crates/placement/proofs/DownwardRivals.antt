-- No placement has a lower bottom: in each, a descent from a cell sums to at most the cell's bottom edge.
use Rattle.std.proofs.Common.{ℕ, List, [], ◌∷◌, sym, subst, inl, inr}
use Rattle.length.specs.Kind.{Kind, Laws}
use Rattle.length.proofs.Algebra.{plus_keeps_left}
use Rattle.placement.specs.Meaning.{Meaning}
use Rattle.placement.specs.Placements.{Placement}
use Rattle.placement.specs.Downward.{total, Under, Descent, Bottom}

module _ {V : Type 0} {k : Kind V} (laws : Laws k) {m : Meaning} {w h x y : ℕ → V} {half : V} (placed : Placement k m w h x y half) where
  pub under_stands_below : (a b : ℕ) → Under m a b → k.at_most (k.plus (y b) (h b)) (y a)
  under_stands_below a b (inl over) = placed.stacked a b over
  under_stands_below a b (inr (c, mate, over)) = subst (λ (t : V). k.at_most (k.plus (y b) (h b)) t) (sym (placed.level a c mate)) (placed.stacked c b over)

  pub descent_fits : (a : ℕ) (us : List ℕ) → Descent m a us → k.at_most (total k h us) (y a)
  descent_fits a [] path = laws.zero_least (y a)
  descent_fits a (b ∷ us) path =
      laws.at_most_trans _ _ _
      (plus_keeps_left laws _ _ (h b) (descent_fits b us path.1))
      (rw (laws.plus_comm (h b) (y b)) (under_stands_below a b path.0))

  pub bottom_fits : (a : ℕ) (t : V) → Bottom k m h a t → k.at_most t (y a)
  bottom_fits a t bottom = bottom.least (y a) (descent_fits a)
