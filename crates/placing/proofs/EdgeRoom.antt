-- Where there is room for a cell, every difference and sum on the way to its left edge stands; and which half it is.
use Rattle.std.proofs.Common.{◌≡◌, ℕ, ◌+◌, ◌≤◌, Bool, true, false, cond, Decides, refl, arith}
use Rattle.std.proofs.lemmas.Bool.Decides.{not_from_Decides}
use Rattle.length.specs.Kind.{Kind, Laws, sum_limit}
use Rattle.length.proofs.Algebra.{at_most_plus_left, fits_minus, minus_at_most}
use Rattle.placement.specs.Meaning.{Meaning}
use Rattle.placement.specs.Rule.{RoundsUp}
use Rattle.placing.specs.Edges.{EdgeAt, Room}

module _ {V : Type 0} {k : Kind V} (laws : Laws k) {span w before after : V} (room : Room k span w before after) where
  pub width_fits : k.at_most w span
  width_fits = laws.at_most_trans _ _ _ (at_most_plus_left laws w after) room.fits

  pub after_fits : k.at_most after (k.minus span w)
  after_fits = fits_minus laws w span after room.fits

  pub latest_small : k.measure before + k.measure (k.minus (k.minus span w) after) ≤ sum_limit
  latest_small =
      let low : k.at_most (k.minus (k.minus span w) after) span =
      laws.at_most_trans _ _ _ (minus_at_most laws after (k.minus span w) after_fits) (minus_at_most laws w span width_fits)
      in
      omega (arith, laws.measure_keeps _ _ low, room.small)

pub edge_at : {V : Type 0} (k : Kind V) (m : Meaning) (a : ℕ) (t x : V) (up : Bool) → Decides up (RoundsUp m a) → x ≡ cond up (k.upper t) (k.lower t) → EdgeAt k m a t x
edge_at k m a t x true told e = record { up = λ _. e; down = λ not. absurd (not (told.0 refl)) }
edge_at k m a t x false told e = record { up = λ up. absurd (not_from_Decides false told refl up); down = λ _. e }
