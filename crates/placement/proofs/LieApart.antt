-- In any placement two different cells lie apart, since the order tells how each two lie.
use Rattle.std.proofs.Common.{inl, inr}
use Rattle.book.specs.Order.{left, right, above, below}
use Rattle.length.specs.Kind.{Kind}
use Rattle.placement.specs.Theorems.{CellsLieApart}

pub cells_lie_apart_lem : {V : Type 0} (k : Kind V) → CellsLieApart k
cells_lie_apart_lem k m lawful w h x y half placed a b apart =
    elim (lawful.laws.total a b apart) [
      | left h ↦ inl (inl (placed.beside a b h))
      | right h ↦ inl (inr (placed.beside b a h))
      | above h ↦ inr (inr (placed.stacked a b h))
      | below h ↦ inr (inl (placed.stacked b a h))
    ]
