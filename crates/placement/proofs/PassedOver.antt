-- Loops in which some nodes can be passed over: without them the loop is one over the nodes that are kept, unless some
-- node that can be passed over leads to itself.
use Rattle.std.proofs.Common.{◌≡◌, ◌⊎◌, List, [], ◌∷◌, sym, subst, inl, inr}
use Rattle.placement.specs.Walks.{Walk, Loop}

-- `at` gives the nodes that are kept; where a step starts, the node is kept or can be passed over
module _ {C D : Type 0} (R : C → C → Type 0) (Passable : C → Type 0) (at : D → C) (sort : (x y : C) → R x y → ((d : D) × (at d ≡ x)) ⊎ Passable x) (skip : (u x y : C) → Passable x → R u x → R x y → R u y) where
  abbrev Start : C → Type 0
  Start x = ((d : D) × (at d ≡ x)) ⊎ Passable x

  abbrev Kept : D → D → Type 0
  Kept d e = R (at d) (at e)

  start : (x : C) (xs : List C) (w : C) → Walk R x xs w → Start x
  start x [] w h = sort x w h
  start x (y ∷ ys) w h = sort x y h.0

  pass_first : (u x : C) (xs : List C) (w : C) → Passable x → R u x → Walk R x xs w → Walk R u xs w
  pass_first u x [] w f r h = skip u x w f r h
  pass_first u x (y ∷ ys) w f r h = (skip u x y f r h.0, h.1)

  pass_last : (x : C) (xs : List C) (u y : C) → Passable u → Walk R x xs u → R u y → Walk R x xs y
  pass_last x [] u y f h r = skip x u y f h r
  pass_last x (z ∷ zs) u y f h r = (h.0, pass_last z zs u y f h.1 r)

  kept_walk : (d e : D) (xs : List C) → Walk R (at d) xs (at e) → (ys : List D) × Walk Kept d ys e
  kept_walk d e [] h = ([], h)
  kept_walk d e (x ∷ xs) h = go (λ c. kept_walk c e xs) (start x xs (at e) h.1)
    where
      go : ((c : D) → Walk R (at c) xs (at e) → (ys : List D) × Walk Kept c ys e) → Start x → (ys : List D) × Walk Kept d ys e
      go on (inl (c, is)) =
          let rest = on c (subst (λ (z : C). Walk R z xs (at e)) (sym is) h.1) in
          (c ∷ rest.0, (subst (λ (z : C). R (at d) z) (sym is) h.0, rest.1))
      go on (inr f) = on d (pass_first (at d) x xs (at e) f h.0 h.1)

  abbrev Outcome : Type 0
  Outcome = ((u : C) × Passable u × R u u) ⊎ ((d : D) × (ys : List D) × Walk Kept d ys d)

  kept_at : (x : C) (xs : List C) (d : D) → at d ≡ x → Walk R x xs x → Outcome
  kept_at x xs d is h =
      let rest = kept_walk d d xs (subst (λ (z : C). Walk R z xs z) (sym is) h) in
      inr (d, rest.0, rest.1)

  -- the loop starts at a node that can be passed over: go on to the first that is kept
  settle : (u : C) (xs : List C) → Passable u → Walk R u xs u → Outcome
  settle u [] f h = inl (u, f, h)
  settle u (x ∷ xs) f h = go (settle u xs f) (start x xs u h.1)
    where
      go : (Walk R u xs u → Outcome) → Start x → Outcome
      go on (inl (d, is)) = kept_at x xs d is (pass_last x xs u x f h.1 h.0)
      go on (inr g) = on (pass_first u x xs u g h.0 h.1)

  pub kept_loop : (xs : List C) → Loop R xs → Outcome
  kept_loop [] h = absurd h
  kept_loop (u ∷ xs) h = go (start u xs u h)
    where
      go : Start u → Outcome
      go (inl (d, is)) = kept_at u xs d is h
      go (inr f) = settle u xs f h
