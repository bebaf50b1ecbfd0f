-- On a clean sheet with lawful sizes there is room for every cell within the span, and no sum passes the limit.
use Rattle.std.proofs.Common.{ℕ, ◌+◌, ◌*◌, ◌≤◌, arith}
use Rattle.length.specs.Kind.{Kind, Laws, largest_size}
use Rattle.length.proofs.Algebra.{at_most_plus_right, upper_at_most}
use Rattle.placement.specs.Meaning.{Meaning, Cell, Lawful}
use Rattle.placement.specs.Placements.{Sizes}
use Rattle.placement.proofs.Images.{has_image}
use Rattle.placement.proofs.MirroredChains.{through_at_most_longest}
use Rattle.placing.specs.Edges.{RoomForAll}
use Rattle.placing.specs.Values.{GivenAcross, SmallAcross}

module _ {V : Type 0} {k : Kind V} (laws : Laws k) {m : Meaning} (lawful : Lawful m) {w h before after : ℕ → V} {longest : V} (sized : Sizes k m w h)
    (across : GivenAcross k m w before after longest) (small : SmallAcross k m m.order.count before longest)
  where
    abbrev half : V
    half = k.upper longest

    half_small : k.measure half ≤ (2 * m.order.count + 1) * largest_size
    half_small = omega (arith, laws.measure_keeps _ _ (upper_at_most laws longest), small.longest_small)

    fits : (a : ℕ) → Cell m a → k.at_most (k.plus (w a) (after a)) (k.plus half half)
    fits a here =
        let its = has_image m a here in
        laws.at_most_trans _ _ _ (at_most_plus_right laws (before a) _)
        (laws.at_most_trans _ _ _
        (through_at_most_longest laws lawful sized a its.0 (before a) (after a) longest here its.1 (across.before_is a here) (across.after_is a its.0 its.1) across.longest_is)
        (laws.upper_above longest))

    pub room_for_all : RoomForAll k m w before after (k.upper longest)
    room_for_all = record {
      span_small = omega (arith, half_small, lawful.laws.few);
      each = λ a here. record {
        fits = fits a here;
        small = omega (arith, half_small, lawful.laws.few, laws.measure_plus half half, small.each_small a here);
      };
    }
