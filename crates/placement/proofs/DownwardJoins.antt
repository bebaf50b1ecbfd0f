-- On a lawful clean sheet every cell has a bottom, and there is a depth.
use Rattle.std.proofs.Common.{ℕ, ◌⊎◌, subst, inl, inr}
use native.Mathlib.Decide.{dec_lt}
use Rattle.book.specs.Order.{AboveOf}
use Rattle.length.specs.Kind.{Kind, Laws}
use Rattle.placement.specs.Meaning.{Meaning, Cell, Mate, Free, Lawful}
use Rattle.placement.specs.Couples.{Clean}
use Rattle.placement.specs.Downward.{Under, Bottom, Depth}
use Rattle.book.specs.Orders.{above?}
use Rattle.placement.proofs.Mates.{mate_only, mate_not_free, grouped_or_free}
use Rattle.placement.proofs.Listings.{cells, entry_cells}
use Rattle.placement.proofs.FiniteJoins.{finite_join}
use Rattle.placement.proofs.PathJoins.{path_join}
use Rattle.placement.proofs.DownwardLoops.{under_to_cell}
use Rattle.placement.proofs.ShortDescents.{descent_is_short}

module _ {m : Meaning} (lawful : Lawful m) where
  under_mate : (a b : ℕ) → (AboveOf m.order a b → ⊥) → ((c : ℕ) × Mate m a c) ⊎ Free m a → Dec (Under m a b)
  under_mate a b not (inr free) = no (elim [ inl h ↦ not h | inr (c, mate, h) ↦ mate_not_free mate free ])
  under_mate a b not (inl (c, mate)) =
      elim (above? lawful.laws c b) [
        | yes h ↦ yes (inr (c, mate, h))
        | no not_mate ↦ no (elim [ inl h ↦ not h | inr (d, its, h) ↦ not_mate (subst (λ (x : ℕ). AboveOf m.order x b) (mate_only its mate) h) ])
      ]

  under? : (a b : ℕ) → Dec (Under m a b)
  under? a b = go (above? lawful.laws a b) (dec_lt a m.order.count)
    where
      go : Dec (AboveOf m.order a b) → Dec (Cell m a) → Dec (Under m a b)
      go (yes h) _ = yes (inl h)
      go (no not) (yes here) = under_mate a b not (grouped_or_free m a here)
      go (no not) (no outside) = no (elim [ inl h ↦ not h | inr (c, mate, h) ↦ outside mate.cell ])

  module _ {V : Type 0} {k : Kind V} (laws : Laws k) (clean : Clean m) (h : ℕ → V) where
    pub bottom_exists : (a : ℕ) → (t : V) × Bottom k m h a t
    bottom_exists a =
        path_join laws h (Under m) under? (cells m) (λ u v step. entry_cells m v (under_to_cell step)) m.order.count
        (descent_is_short m lawful clean) a

    pub depth_exists : (y : ℕ → V) → (t : V) × Depth k m h y t
    depth_exists y = finite_join laws (Cell m) (λ a. dec_lt a m.order.count) (cells m) (entry_cells m) (λ (a : ℕ). k.plus (y a) (h a))
