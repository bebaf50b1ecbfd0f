-- The bottoms that the rule gives: what is under a cell ends at its bottom or below, and mates stand level.
use Rattle.std.proofs.Common.{◌≡◌, ℕ, List, [], ◌∷◌, subst, inl, inr}
use Rattle.book.specs.Order.{AboveOf}
use Rattle.length.specs.Kind.{Kind, Laws}
use Rattle.length.proofs.Joins.{join_only, join_same, join_shift}
use Rattle.placement.specs.Meaning.{Meaning, Mate, Lawful}
use Rattle.placement.specs.Downward.{total, Under, Descent, Bottom}
use Rattle.placement.proofs.Mates.{mate_only}

-- what is under a cell is under its mate
pub under_mate : {m : Meaning} {a b c : ℕ} → Lawful m → Mate m a b → Under m a c → Under m b c
under_mate {m} {a} {b} lawful mate (inl over) = inr (a, lawful.both_ways a b mate, over)
under_mate {m} {a} {b} {c} lawful mate (inr (d, other, over)) = inl (subst (λ (u : ℕ). AboveOf m.order u c) (mate_only other mate) over)

pub descent_of_mate : {m : Meaning} {a b : ℕ} → Lawful m → Mate m a b → (us : List ℕ) → Descent m a us → Descent m b us
descent_of_mate lawful mate [] path = tt
descent_of_mate lawful mate (c ∷ us) path = (under_mate lawful mate path.0, path.1)

module _ {V : Type 0} {k : Kind V} (laws : Laws k) {m : Meaning} {h : ℕ → V} where
  pub under_ends_below : (a b : ℕ) (s t : V) → Under m a b → Bottom k m h a s → Bottom k m h b t → k.at_most (k.plus t (h b)) s
  under_ends_below a b s t under bottom_a bottom_b =
      (join_shift laws (total k h) t (h b) [] tt bottom_b).least s
      (λ us path. rw (laws.plus_comm (total k h us) (h b)) (bottom_a.above (b ∷ us) (under, path)))

  pub mates_stand_level : (a b : ℕ) (s t : V) → Lawful m → Mate m a b → Bottom k m h a s → Bottom k m h b t → s ≡ t
  mates_stand_level a b s t lawful mate bottom_a bottom_b =
      join_only laws s t
      (join_same (descent_of_mate lawful mate) (descent_of_mate lawful (lawful.both_ways a b mate)) bottom_a)
      bottom_b
