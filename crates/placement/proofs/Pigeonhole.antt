-- A list with more entries than there are things has an entry twice; so a path without loops is short.
use Rattle.std.proofs.Common.{◌≡◌, suc, ◌<◌, ◌≤◌, ◌≢◌, ◌⊎◌, List, [], ◌∷◌, length, sym, refl, ap, ◌∙◌, subst, inl, inr, arith}
use native.Mathlib.Decide.{dec_le}
use Rattle.placement.specs.Walks.{Path, Walk, Loop}
use Rattle.placement.proofs.Entries.{All, Entry, Repeats}

-- all but one x: one fewer, and everything else is there still
record Without {C : Type 0} (x : C) (all : List C) : Type 0 where
  rest : List C
  fewer : suc (length rest) ≡ length all
  still : (y : C) → Entry y all → x ≢ y → Entry y rest

without : {C : Type 0} (x : C) (all : List C) → Entry x all → Without x all
without x [] h = absurd h
without {C} x (z ∷ zs) (inl e) =
    record {
      rest = zs;
      fewer = refl;
      still = λ y. elim [ inl f ↦ λ ne. absurd (ne (sym e ∙ f)) | inr i ↦ λ ne. i ];
    }
without x (z ∷ zs) (inr i) =
    let r = without x zs i in
    record {
      rest = z ∷ r.rest;
      fewer = ap suc r.fewer;
      still = λ y. elim [ inl f ↦ λ ne. inl f | inr j ↦ λ ne. inr (r.still y j ne) ];
    }

module _ {C : Type 0} (equal? : (x y : C) → Dec (x ≡ y)) where
  entry? : (b : C) (xs : List C) → Dec (Entry b xs)
  entry? b [] = no (λ h. h)
  entry? b (x ∷ xs) = go (equal? x b) (entry? b xs)
    where
      go : Dec (x ≡ b) → Dec (Entry b xs) → Dec ((x ≡ b) ⊎ Entry b xs)
      go (yes e) i = yes (inl e)
      go (no ne) (yes i) = yes (inr i)
      go (no ne) (no ni) = no (elim [ inl e ↦ ne e | inr i ↦ ni i ])

  others : (x : C) (all xs : List C) (w : Without x all) → (Entry x xs → ⊥) → All (λ y. Entry y all) xs → All (λ y. Entry y w.rest) xs
  others x all [] w absent h = tt
  others x all (y ∷ ys) w absent h =
      (w.still y h.0 (λ e. absent (inl (sym e))), others x all ys w (λ i. absent (inr i)) h.1)

  pub pigeonhole : (xs all : List C) → All (λ x. Entry x all) xs → length all < length xs → Repeats xs
  pigeonhole [] all h more = absurd (omega arith)
  pigeonhole (x ∷ xs) all h more = go (pigeonhole xs) (entry? x xs)
    where
      go : ((all : List C) → All (λ y. Entry y all) xs → length all < length xs → Repeats xs) → Dec (Entry x xs) → Repeats (x ∷ xs)
      go on (yes i) = inl i
      go on (no absent) =
          let w = without x all h.0 in
          let f : suc (length w.rest) ≡ length all = w.fewer in
          inr (on w.rest (others x all xs w absent h.1) (omega arith))

-- a path that comes back to a node has a loop
module _ {C : Type 0} (R : C → C → Type 0) where
  walk_to : (u y : C) (xs : List C) (w : C) → R u y → Path R y xs → Entry w (y ∷ xs) → (ys : List C) × Walk R u ys w
  walk_to u y xs w r p (inl e) = ([], subst (λ (z : C). R u z) e r)
  walk_to u y [] w r p (inr i) = absurd i
  walk_to u y (z ∷ zs) w r p (inr i) = let q = walk_to y z zs w p.0 p.1 i in (y ∷ q.0, (r, q.1))

  repeats_loops : (u : C) (xs : List C) → Path R u xs → Repeats (u ∷ xs) → (ys : List C) × Loop R ys
  repeats_loops u [] p (inl i) = absurd i
  repeats_loops u [] p (inr q) = absurd q
  repeats_loops u (x ∷ xs) p (inl i) = let r = walk_to u x xs u p.0 p.1 i in (u ∷ r.0, r.1)
  repeats_loops u (x ∷ xs) p (inr q) = repeats_loops x xs p.1 q

  pub path_entries : (all : List C) → ((u v : C) → R u v → Entry v all) → (u : C) (xs : List C) → Path R u xs → All (λ x. Entry x all) xs
  path_entries all to u [] p = tt
  path_entries all to u (x ∷ xs) p = (to u x p.0, path_entries all to x xs p.1)

  pub path_is_short : (equal? : (x y : C) → Dec (x ≡ y)) (all : List C) → ((u v : C) → R u v → Entry v all) → ((xs : List C) → Loop R xs → ⊥) → (u : C) (xs : List C) → Entry u all → Path R u xs → length (u ∷ xs) ≤ length all
  path_is_short equal? all to no_loop u xs i p = go (dec_le (length (u ∷ xs)) (length all))
    where
      go : Dec (length (u ∷ xs) ≤ length all) → length (u ∷ xs) ≤ length all
      go (yes few) = few
      go (no not) =
          let more : length all < length (u ∷ xs) = omega arith in
          let r = repeats_loops u xs p (pigeonhole equal? (u ∷ xs) all (i, path_entries all to u xs p) more) in
          absurd (no_loop r.0 r.1)
