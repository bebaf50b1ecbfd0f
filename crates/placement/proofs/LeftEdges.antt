-- The left edges that the rule gives: each cell ends within the span and clear of those right of it, and mates mirror each other.
use Rattle.std.proofs.Common.{◌≡◌, ℕ, ◌⊎◌, sym, ap, ◌∙◌, subst, inl, inr}
use Rattle.book.specs.Order.{LeftOf}
use Rattle.length.specs.Kind.{Kind, Laws, Even}
use Rattle.length.proofs.Algebra.{equal_at_most, at_most_plus_left, at_most_plus_right, plus_keeps_left, plus_keeps_both, plus_crosswise, plus_cancels_left, plus_cancels_equal, minus_plus, lower_at_most_upper, lower_steps, upper_steps, lower_shift, upper_shift, halves_meet_lem, halves_make, even_double}
use Rattle.length.proofs.Joins.{join_only}
use Rattle.placement.specs.Meaning.{Meaning, Cell, Mate, Lawful}
use Rattle.placement.specs.Couples.{Clean}
use Rattle.placement.specs.Placements.{Sizes}
use Rattle.placement.specs.Across.{cell, of_mate, straight, mirrored}
use Rattle.placement.specs.Rule.{RoundsUp, middle, Given}
use Rattle.placement.proofs.Deciding.{rounds_up?}
use Rattle.placement.proofs.Images.{has_image, image_is_wide}
use Rattle.placement.proofs.MirroredChains.{in_steps, through_at_most_longest}
use Rattle.placement.proofs.Rounding.{Mirror, centred, left_right, right_left, rounds_up_rightward, right_rounds_up, left_rounds_down, mates_side_by_side}

-- ((s − a) − b) + (a + b) = s where a + b ≤ s
pub minus_twice_makes : {V : Type 0} {k : Kind V} (laws : Laws k) (s a b : V) → k.at_most (k.plus a b) s → k.plus (k.minus (k.minus s a) b) (k.plus a b) ≡ s
minus_twice_makes {V} {k} laws s a b fits =
    let rest : V = k.minus s a in
    let a_fits : k.at_most a s = laws.at_most_trans _ _ _ (at_most_plus_left laws a b) fits in
    let b_fits : k.at_most b rest = plus_cancels_left laws b rest a (rw (laws.minus_makes a s a_fits) fits) in
    ap (k.plus (k.minus rest b)) (laws.plus_comm a b)
    ∙ sym (laws.plus_assoc (k.minus rest b) b a)
    ∙ ap (λ (t : V). k.plus t a) (minus_plus laws b rest b_fits)
    ∙ minus_plus laws a s a_fits

module _ {V : Type 0} {k : Kind V} (laws : Laws k) {m : Meaning} (lawful : Lawful m) {w h before after x y : ℕ → V} {half depth : V}
    (sized : Sizes k m w h) (given : Given k m w h before after x y half depth)
  where
    abbrev span : V
    span = k.plus half half

    -- as far right as the cell can stand
    abbrev latest : ℕ → V
    latest a = k.minus (k.minus span (w a)) (after a)

    -- twice the place of the cell, before it is halved and rounded
    abbrev twice : ℕ → V
    twice a = middle k span (w a) (before a) (after a)

    -- Within the span: a cell, with what stands before it and after it, fits

    pub through_fits : (a : ℕ) → Cell m a → k.at_most (k.plus (before a) (k.plus (w a) (after a))) span
    through_fits a here =
        let its = has_image m a here in
        laws.at_most_trans _ _ _
        (through_at_most_longest laws lawful sized a its.0 (before a) (after a) given.longest here its.1 (given.before_is a here) (given.after_is a its.0 its.1) given.longest_is)
        (rw given.half_is (laws.upper_above given.longest))

    latest_makes : (a : ℕ) → Cell m a → k.plus (latest a) (k.plus (w a) (after a)) ≡ span
    latest_makes a here = minus_twice_makes laws span (w a) (after a) (laws.at_most_trans _ _ _ (at_most_plus_right laws (before a) _) (through_fits a here))

    before_at_most_latest : (a : ℕ) → Cell m a → k.at_most (before a) (latest a)
    before_at_most_latest a here = laws.plus_cancels _ _ (k.plus (w a) (after a)) (rw (latest_makes a here) (through_fits a here))

    rounded : (a : ℕ) → Cell m a → (x a ≡ k.upper (twice a)) ⊎ (x a ≡ k.lower (twice a))
    rounded a here = elim (rounds_up? lawful a) [ yes up ↦ inl (given.up a here up) | no down ↦ inr (given.down a here down) ]

    left_at_most_upper : (a : ℕ) → Cell m a → k.at_most (x a) (k.upper (twice a))
    left_at_most_upper a here =
        elim (rounded a here) [
          | inl e ↦ equal_at_most laws _ _ e
          | inr e ↦ rw e (lower_at_most_upper laws (twice a))
        ]

    left_at_most_latest : (a : ℕ) → Cell m a → k.at_most (x a) (latest a)
    left_at_most_latest a here =
        laws.at_most_trans _ _ _ (left_at_most_upper a here)
        (laws.upper_least (twice a) (latest a) (laws.plus_keeps _ _ (latest a) (before_at_most_latest a here)))

    pub ends_within : (a : ℕ) → Cell m a → k.at_most (k.plus (x a) (w a)) span
    ends_within a here =
        laws.at_most_trans _ _ _
        (plus_keeps_both laws _ _ _ _ (left_at_most_latest a here) (at_most_plus_left laws (w a) (after a)))
        (equal_at_most laws _ _ (latest_makes a here))

    -- Clear of those right of it

    before_steps : (a b : ℕ) → LeftOf m.order a b → k.at_most (k.plus (before a) (w a)) (before b)
    before_steps a b left =
        in_steps laws lawful sized (cell a) (cell b) (before a) (before b) (straight left) (given.before_is a left.apart.a_in) (given.before_is b left.apart.b_in)

    after_steps : (a b : ℕ) → LeftOf m.order a b → k.at_most (k.plus (w b) (after b)) (after a)
    after_steps a b left =
        let of_a = has_image m a left.apart.a_in in
        let of_b = has_image m b left.apart.b_in in
        let step = in_steps laws lawful sized of_b.0 of_a.0 (after b) (after a) (mirrored left of_b.1 of_a.1) (given.after_is b of_b.0 of_b.1) (given.after_is a of_a.0 of_a.1) in
        rw (laws.plus_comm (w b) (after b)) (rw (image_is_wide sized of_b.1) at step)

    latest_steps : (a b : ℕ) → LeftOf m.order a b → k.at_most (k.plus (latest a) (w a)) (latest b)
    latest_steps a b left =
        laws.plus_cancels _ _ (after a)
        (rw (laws.plus_assoc (latest a) (w a) (after a), latest_makes a left.apart.a_in, sym (latest_makes b left.apart.b_in))
        (plus_keeps_left laws _ _ (latest b) (after_steps a b left)))

    twice_steps : (a b : ℕ) → LeftOf m.order a b → k.at_most (k.plus (twice a) (k.plus (w a) (w a))) (twice b)
    twice_steps a b left =
        rw (plus_crosswise laws (before a) (latest a) (w a) (w a))
        (plus_keeps_both laws _ _ _ _ (before_steps a b left) (latest_steps a b left))

    pub ends_before : (a b : ℕ) → LeftOf m.order a b → k.at_most (k.plus (x a) (w a)) (x b)
    ends_before a b left = go (rounds_up? lawful a) (rounds_up? lawful b)
      where
        in-a : Cell m a
        in-a = left.apart.a_in

        in_b : Cell m b
        in_b = left.apart.b_in

        lowers : k.at_most (k.plus (k.lower (twice a)) (w a)) (k.lower (twice b))
        lowers = lower_steps laws (twice a) (w a) (twice b) (twice_steps a b left)

        go : Dec (RoundsUp m a) → Dec (RoundsUp m b) → k.at_most (k.plus (x a) (w a)) (x b)
        go (yes up_a) (yes up_b) = rw (given.up a in-a up_a, given.up b in_b up_b) (upper_steps laws (twice a) (w a) (twice b) (twice_steps a b left))
        go (yes up_a) (no down_b) = absurd (down_b (rounds_up_rightward lawful left up_a))
        go (no down_a) (yes up_b) = rw (given.down a in-a down_a, given.up b in_b up_b) (laws.at_most_trans _ _ _ lowers (lower_at_most_upper laws (twice b)))
        go (no down_a) (no down_b) = rw (given.down a in-a down_a, given.down b in_b down_b) lowers

    -- Mates

    -- what stands after a cell, mirrored, is what stands before its mate
    after_is_mates_before : (a b : ℕ) → Mate m a b → after a ≡ before b
    after_is_mates_before a b mate =
        join_only laws _ _ (given.after_is a (cell b) (of_mate mate)) (given.before_is b (lawful.both_ways a b mate).cell)

    abbrev rest : ℕ → V
    rest a = k.minus span (w a)

    rest_makes : (a : ℕ) → Cell m a → k.plus (rest a) (w a) ≡ span
    rest_makes a here =
        minus_plus laws (w a) span
        (laws.at_most_trans _ _ _ (at_most_plus_left laws (w a) (after a))
        (laws.at_most_trans _ _ _ (at_most_plus_right laws (before a) _) (through_fits a here)))

    mates_before_and_latest : (a b : ℕ) → Mate m a b → k.plus (latest a) (before b) ≡ rest a
    mates_before_and_latest a b mate =
        plus_cancels_equal laws _ _ (w a)
        (laws.plus_assoc (latest a) (before b) (w a)
        ∙ ap (k.plus (latest a)) (laws.plus_comm (before b) (w a) ∙ ap (k.plus (w a)) (sym (after_is_mates_before a b mate)))
        ∙ latest_makes a mate.cell
        ∙ sym (rest_makes a mate.cell))

    twice_both : (a b : ℕ) → Mate m a b → k.plus (twice a) (twice b) ≡ k.plus (rest a) (rest a)
    twice_both a b mate =
        let back : Mate m b a = lawful.both_ways a b mate in
        let one : k.plus (latest a) (before b) ≡ rest a = mates_before_and_latest a b mate in
        let other : k.plus (latest b) (before a) ≡ rest a = mates_before_and_latest b a back ∙ ap (k.minus span) (sized.same_width b a back) in
        ap (k.plus (twice a)) (laws.plus_comm (before b) (latest b))
        ∙ plus_crosswise laws (before a) (latest a) (latest b) (before b)
        ∙ ap (λ (t : V). k.plus t (k.plus (latest a) (before b))) (laws.plus_comm (before a) (latest b) ∙ other)
        ∙ ap (k.plus (rest a)) one

    opposite_halves_mirror : (a b : ℕ) → Mate m a b → x a ≡ k.lower (twice a) → x b ≡ k.upper (twice b) → k.plus (k.plus (x a) (x b)) (w a) ≡ span
    opposite_halves_mirror a b mate low up =
        rw (low, up, halves_meet_lem laws (twice a) (twice b) (rest a) (twice_both a b mate)) (rest_makes a mate.cell)

    centred_halves_alike : (a : ℕ) → Mate m a a → Even k (twice a)
    centred_halves_alike a mate =
        let g : V = k.lower (w a) in
        let alone : twice a ≡ rest a = sym (halves_make laws (twice a)) ∙ halves_meet_lem laws (twice a) (twice a) (rest a) (twice_both a a mate) in
        let whole : k.plus (twice a) (k.plus g g) ≡ span =
        ap (k.plus (twice a)) (sym (even_double laws (w a) (sized.even a mate))) ∙ ap (λ (t : V). k.plus t (w a)) alone ∙ rest_makes a mate.cell
        in
        plus_cancels_equal laws _ _ g
        (sym (lower_shift laws (twice a) g) ∙ ap k.lower whole ∙ laws.lower_double half
        ∙ sym (laws.upper_double half) ∙ ap k.upper (sym whole) ∙ upper_shift laws (twice a) g)

    centred_mirrors : (a : ℕ) → Mate m a a → k.plus (k.plus (x a) (x a)) (w a) ≡ span
    centred_mirrors a mate =
        let alike : k.lower (twice a) ≡ k.upper (twice a) = centred_halves_alike a mate in
        elim (rounded a mate.cell) [
          | inl up ↦ opposite_halves_mirror a a mate (up ∙ sym alike) up
          | inr low ↦ opposite_halves_mirror a a mate low (low ∙ alike)
        ]

    left_right_mirror : (a b : ℕ) → Clean m → Mate m a b → LeftOf m.order a b → k.plus (k.plus (x a) (x b)) (w a) ≡ span
    left_right_mirror a b clean mate left =
        let back : Mate m b a = lawful.both_ways a b mate in
        opposite_halves_mirror a b mate
        (given.down a mate.cell (left_rounds_down lawful clean mate left))
        (given.up b back.cell (right_rounds_up back left))

    pub mates_mirror : (a b : ℕ) → Clean m → Mate m a b → k.plus (k.plus (x a) (x b)) (w a) ≡ span
    mates_mirror a b clean mate = go (mates_side_by_side a b lawful clean mate)
      where
        back : Mate m b a
        back = lawful.both_ways a b mate

        go : Mirror m a b → k.plus (k.plus (x a) (x b)) (w a) ≡ span
        go (centred e) =
            subst (λ (c : ℕ). k.plus (k.plus (x a) (x c)) (w a) ≡ span) e
            (centred_mirrors a (subst (Mate m a) (sym e) mate))
        go (left_right left) = left_right_mirror a b clean mate left
        go (right_left left) = rw (laws.plus_comm (x a) (x b), sized.same_width a b mate) (left_right_mirror b a clean back left)
