-- What the laws of a kind of length give by themselves: order and sums, joins of sums, halves. Assumes nothing.
use Rattle.std.proofs.Common.{◌≡◌, ◌≤◌, sym, refl, ap, ◌∙◌, subst, le_trans}
use Rattle.length.specs.Kind.{Kind, Laws, Even, largest_size}

module _ {V : Type 0} {k : Kind V} (laws : Laws k) where
  -- Order and sums

  pub equal_at_most : (a b : V) → a ≡ b → k.at_most a b
  equal_at_most a b e = subst (λ (x : V). k.at_most a x) e (laws.at_most_same a)

  pub zero_plus : (a : V) → k.plus k.zero a ≡ a
  zero_plus a = laws.plus_comm k.zero a ∙ laws.plus_zero a

  pub at_most_plus_right : (a c : V) → k.at_most c (k.plus a c)
  at_most_plus_right a c = subst (λ (x : V). k.at_most x (k.plus a c)) (zero_plus c) (laws.plus_keeps k.zero a c (laws.zero_least a))

  pub at_most_plus_left : (a c : V) → k.at_most a (k.plus a c)
  at_most_plus_left a c = subst (λ (x : V). k.at_most a x) (laws.plus_comm c a) (at_most_plus_right c a)

  pub plus_keeps_left : (a b c : V) → k.at_most a b → k.at_most (k.plus c a) (k.plus c b)
  plus_keeps_left a b c h = rw (laws.plus_comm c a, laws.plus_comm c b) (laws.plus_keeps a b c h)

  pub plus_cancels_left : (a b c : V) → k.at_most (k.plus c a) (k.plus c b) → k.at_most a b
  plus_cancels_left a b c h = laws.plus_cancels a b c (rw (laws.plus_comm a c, laws.plus_comm b c) h)

  pub plus_keeps_both : (a b c d : V) → k.at_most a b → k.at_most c d → k.at_most (k.plus a c) (k.plus b d)
  plus_keeps_both a b c d h i = laws.at_most_trans _ _ _ (laws.plus_keeps a b c h) (plus_keeps_left c d b i)

  pub plus_cancels_equal : (a b c : V) → k.plus a c ≡ k.plus b c → a ≡ b
  plus_cancels_equal a b c e =
      laws.at_most_both a b
      (laws.plus_cancels a b c (equal_at_most _ _ e))
      (laws.plus_cancels b a c (equal_at_most _ _ (sym e)))

  -- (a + b) + (c + d) = (a + c) + (b + d)
  pub plus_crosswise : (a b c d : V) → k.plus (k.plus a b) (k.plus c d) ≡ k.plus (k.plus a c) (k.plus b d)
  plus_crosswise a b c d =
      laws.plus_assoc a b (k.plus c d)
      ∙ ap (k.plus a) (sym (laws.plus_assoc b c d) ∙ ap (λ (x : V). k.plus x d) (laws.plus_comm b c) ∙ laws.plus_assoc c b d)
      ∙ sym (laws.plus_assoc a c (k.plus b d))

  -- (a + b) + (a + b) = (a + a) + (b + b)
  pub double_plus : (a b : V) → k.plus (k.plus a b) (k.plus a b) ≡ k.plus (k.plus a a) (k.plus b b)
  double_plus a b = plus_crosswise a b a b

  -- (b − a) + a = b where a ≤ b
  pub minus_plus : (a b : V) → k.at_most a b → k.plus (k.minus b a) a ≡ b
  minus_plus a b h = laws.plus_comm (k.minus b a) a ∙ laws.minus_makes a b h

  -- a + c ≤ b gives c ≤ b − a
  pub fits_minus : (a b c : V) → k.at_most (k.plus a c) b → k.at_most c (k.minus b a)
  fits_minus a b c h =
      let low : k.at_most a b = laws.at_most_trans _ _ _ (at_most_plus_left a c) h in
      plus_cancels_left c (k.minus b a) a (subst (λ (x : V). k.at_most (k.plus a c) x) (sym (laws.minus_makes a b low)) h)

  -- b ≤ a + c gives b − a ≤ c, where a ≤ b
  pub minus_fits : (a b c : V) → k.at_most a b → k.at_most b (k.plus a c) → k.at_most (k.minus b a) c
  minus_fits a b c low h = plus_cancels_left (k.minus b a) c a (subst (λ (x : V). k.at_most x (k.plus a c)) (sym (laws.minus_makes a b low)) h)

  pub minus_at_most : (a b : V) → k.at_most a b → k.at_most (k.minus b a) b
  minus_at_most a b low = minus_fits a b b low (at_most_plus_right a b)

  -- a length that a size is added to is not at most what it was
  pub size_adds : (a w : V) → k.size w → k.at_most (k.plus a w) a → ⊥
  size_adds a w s h = laws.size_some w s (plus_cancels_left w k.zero a (subst (λ (x : V). k.at_most (k.plus a w) x) (sym (laws.plus_zero a)) h))

  -- where there is any size, zero measures no more than the largest
  pub zero_small : (w : V) → k.size w → k.measure k.zero ≤ largest_size
  zero_small w s = le_trans (laws.measure_keeps _ _ (laws.zero_least w)) (laws.size_small w s)

  -- Joins

  -- (a ∨ b) + c = (a + c) ∨ (b + c)
  pub join_plus : (a b c : V) → k.plus (k.join a b) c ≡ k.join (k.plus a c) (k.plus b c)
  join_plus a b c =
      let u : V = k.join (k.plus a c) (k.plus b c) in
      let d : V = k.minus u c in
      let within : k.at_most c u = laws.at_most_trans _ _ _ (at_most_plus_right a c) (laws.join_left _ _) in
      let made : k.plus d c ≡ u = minus_plus c u within in
      let left : k.at_most a d = laws.plus_cancels a d c (rw made (laws.join_left _ _)) in
      let right : k.at_most b d = laws.plus_cancels b d c (rw made (laws.join_right _ _)) in
      let over : k.at_most (k.plus (k.join a b) c) (k.plus d c) = laws.plus_keeps _ _ c (laws.join_least a b d left right) in
      laws.at_most_both _ _
      (subst (λ (x : V). k.at_most (k.plus (k.join a b) c) x) made over)
      (laws.join_least _ _ _ (laws.plus_keeps _ _ c (laws.join_left a b)) (laws.plus_keeps _ _ c (laws.join_right a b)))

  -- Halves

  -- g + g ≤ b + b gives g ≤ b
  pub double_reflects : (g b : V) → k.at_most (k.plus g g) (k.plus b b) → k.at_most g b
  double_reflects g b h = subst (λ (x : V). k.at_most g x) (laws.lower_double b) (laws.lower_greatest _ g h)

  pub double_keeps : (g b : V) → k.at_most g b → k.at_most (k.plus g g) (k.plus b b)
  double_keeps g b h = plus_keeps_both g b g b h h

  pub lower_at_most_upper : (a : V) → k.at_most (k.lower a) (k.upper a)
  lower_at_most_upper a = double_reflects _ _ (laws.at_most_trans _ _ _ (laws.lower_below a) (laws.upper_above a))

  pub lower_keeps : (a b : V) → k.at_most a b → k.at_most (k.lower a) (k.lower b)
  lower_keeps a b h = laws.lower_greatest b _ (laws.at_most_trans _ _ _ (laws.lower_below a) h)

  pub upper_keeps : (a b : V) → k.at_most a b → k.at_most (k.upper a) (k.upper b)
  upper_keeps a b h = laws.upper_least a _ (laws.at_most_trans _ _ _ h (laws.upper_above b))

  pub upper_at_most : (a : V) → k.at_most (k.upper a) a
  upper_at_most a = laws.upper_least a a (at_most_plus_left a a)

  pub lower_at_most : (a : V) → k.at_most (k.lower a) a
  lower_at_most a = laws.at_most_trans _ _ _ (lower_at_most_upper a) (upper_at_most a)

  -- lower (s + (w + w)) = lower s + w
  pub lower_shift : (s w : V) → k.lower (k.plus s (k.plus w w)) ≡ k.plus (k.lower s) w
  lower_shift s w =
      let t : V = k.plus s (k.plus w w) in
      let l : V = k.lower t in
      let within : k.at_most w l = laws.lower_greatest t w (at_most_plus_right s (k.plus w w)) in
      let d : V = k.minus l w in
      let made : k.plus d w ≡ l = minus_plus w l within in
      let doubled : k.plus l l ≡ k.plus (k.plus d d) (k.plus w w) = ap (λ (x : V). k.plus x x) (sym made) ∙ double_plus d w in
      let fits : k.at_most (k.plus d d) s = laws.plus_cancels _ _ (k.plus w w) (subst (λ (x : V). k.at_most x t) doubled (laws.lower_below t)) in
      laws.at_most_both _ _
      (subst (λ (x : V). k.at_most x (k.plus (k.lower s) w)) made (laws.plus_keeps d (k.lower s) w (laws.lower_greatest s d fits)))
      (laws.lower_greatest t _ (subst (λ (x : V). k.at_most x t) (sym (double_plus (k.lower s) w)) (laws.plus_keeps _ _ (k.plus w w) (laws.lower_below s))))

  -- upper (s + (w + w)) = upper s + w
  pub upper_shift : (s w : V) → k.upper (k.plus s (k.plus w w)) ≡ k.plus (k.upper s) w
  upper_shift s w =
      let t : V = k.plus s (k.plus w w) in
      let u : V = k.upper t in
      let within : k.at_most w u = double_reflects w u (laws.at_most_trans _ _ _ (at_most_plus_right s (k.plus w w)) (laws.upper_above t)) in
      let d : V = k.minus u w in
      let made : k.plus d w ≡ u = minus_plus w u within in
      let doubled : k.plus u u ≡ k.plus (k.plus d d) (k.plus w w) = ap (λ (x : V). k.plus x x) (sym made) ∙ double_plus d w in
      let fits : k.at_most s (k.plus d d) = laws.plus_cancels _ _ (k.plus w w) (subst (λ (x : V). k.at_most t x) doubled (laws.upper_above t)) in
      laws.at_most_both _ _
      (laws.upper_least t _ (subst (λ (x : V). k.at_most t x) (sym (double_plus (k.upper s) w)) (laws.plus_keeps _ _ (k.plus w w) (laws.upper_above s))))
      (subst (λ (x : V). k.at_most (k.plus (k.upper s) w) x) made (laws.plus_keeps (k.upper s) d w (laws.upper_least s d fits)))

  -- s + (w + w) ≤ t gives lower s + w ≤ lower t
  pub lower_steps : (s w t : V) → k.at_most (k.plus s (k.plus w w)) t → k.at_most (k.plus (k.lower s) w) (k.lower t)
  lower_steps s w t h = subst (λ (x : V). k.at_most x (k.lower t)) (lower_shift s w) (lower_keeps _ t h)

  -- s + (w + w) ≤ t gives upper s + w ≤ upper t
  pub upper_steps : (s w t : V) → k.at_most (k.plus s (k.plus w w)) t → k.at_most (k.plus (k.upper s) w) (k.upper t)
  upper_steps s w t h = subst (λ (x : V). k.at_most x (k.upper t)) (upper_shift s w) (upper_keeps _ t h)

  -- s + t = m + m gives lower s + upper t = m
  pub halves_meet_lem : (s t m : V) → k.plus s t ≡ k.plus m m → k.plus (k.lower s) (k.upper t) ≡ m
  halves_meet_lem s t m e =
      let g : V = k.lower s in
      let h : V = k.upper t in
      let g_low : k.at_most g m = double_reflects g m (subst (λ (x : V). k.at_most (k.plus g g) x) e (laws.at_most_trans _ _ _ (laws.lower_below s) (at_most_plus_left s t))) in
      let h_low : k.at_most h m = laws.upper_least t m (subst (λ (x : V). k.at_most t x) e (at_most_plus_right s t)) in
      let h' : V = k.minus m g in
      let g' : V = k.minus m h in
      let made_h : k.plus g h' ≡ m = laws.minus_makes g m g_low in
      let made_g : k.plus g' h ≡ m = minus_plus h m h_low in
      let whole_h : k.plus s t ≡ k.plus (k.plus g g) (k.plus h' h') = e ∙ ap (λ (x : V). k.plus x x) (sym made_h) ∙ double_plus g h' in
      let whole_g : k.plus s t ≡ k.plus (k.plus g' g') (k.plus h h) = e ∙ ap (λ (x : V). k.plus x x) (sym made_g) ∙ double_plus g' h in
      let t_fits : k.at_most t (k.plus h' h') =
      plus_cancels_left t (k.plus h' h') (k.plus g g)
      (subst (λ (x : V). k.at_most (k.plus (k.plus g g) t) x) whole_h (laws.plus_keeps _ _ t (laws.lower_below s)))
      in
      let s_fits : k.at_most (k.plus g' g') s =
      laws.plus_cancels (k.plus g' g') s t
      (subst (λ (x : V). k.at_most (k.plus (k.plus g' g') t) x) (sym whole_g) (plus_keeps_left t (k.plus h h) (k.plus g' g') (laws.upper_above t)))
      in
      laws.at_most_both _ _
      (subst (λ (x : V). k.at_most (k.plus g h) x) made_h (plus_keeps_left h h' g (laws.upper_least t h' t_fits)))
      (subst (λ (x : V). k.at_most x (k.plus g h)) made_g (laws.plus_keeps g' g h (laws.lower_greatest s g' s_fits)))

  -- lower a + upper a = a
  pub halves_make : (a : V) → k.plus (k.lower a) (k.upper a) ≡ a
  halves_make a = halves_meet_lem a a a refl

  -- where both halves are at most those of b, so is the whole
  pub halves_reflect : (a b : V) → k.at_most (k.lower a) (k.lower b) → k.at_most (k.upper a) (k.upper b) → k.at_most a b
  halves_reflect a b low up = rw (sym (halves_make a), sym (halves_make b)) (plus_keeps_both _ _ _ _ low up)

  -- what is even is twice its half
  pub even_double : (a : V) → Even k a → a ≡ k.plus (k.lower a) (k.lower a)
  even_double a e =
      laws.at_most_both _ _
      (subst (λ (x : V). k.at_most a (k.plus x x)) (sym e) (laws.upper_above a))
      (laws.lower_below a)

  -- what is twice a length is even
  pub double_even : (a b : V) → a ≡ k.plus b b → Even k a
  double_even a b e = ap k.lower e ∙ laws.lower_double b ∙ sym (laws.upper_double b) ∙ ap k.upper (sym e)
