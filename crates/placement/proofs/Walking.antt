-- Walks: put end to end, moved by a map, cut at an entry, and cut before the last step.
use Rattle.std.proofs.Common.{ℕ, ◌+◌, ◌<◌, ◌≤◌, List, [], ◌∷◌, ◌++◌, map, length, subst, inl, inr, arith, length-append}
use Rattle.placement.specs.Walks.{Path, Walk}
use Rattle.placement.proofs.Entries.{All, Entry, all_append}

pub walk_map : {C D : Type 0} (R : C → C → Type 0) (S : D → D → Type 0) (f : C → D) → ((u v : C) → R u v → S (f u) (f v)) → (u : C) (xs : List C) (w : C) → Walk R u xs w → Walk S (f u) (map f xs) (f w)
walk_map R S f move u [] w h = move u w h
walk_map R S f move u (x ∷ xs) w h = (move u x h.0, walk_map R S f move x xs w h.1)

-- the same walk, by other steps
pub walk_same : {C : Type 0} (R S : C → C → Type 0) → ((u v : C) → R u v → S u v) → (u : C) (xs : List C) (w : C) → Walk R u xs w → Walk S u xs w
walk_same R S change u [] w h = change u w h
walk_same R S change u (x ∷ xs) w h = (change u x h.0, walk_same R S change x xs w h.1)

module _ {C : Type 0} (R : C → C → Type 0) where
  pub walk_join : (u : C) (xs : List C) (v : C) (ys : List C) (w : C) → Walk R u xs v → Walk R v ys w → Walk R u (xs ++ v ∷ ys) w
  walk_join u [] v ys w p q = (p, q)
  walk_join u (x ∷ xs) v ys w p q = (p.0, walk_join x xs v ys w p.1 q)

  pub walk_path : (u : C) (xs : List C) (w : C) → Walk R u xs w → Path R u xs
  walk_path u [] w h = tt
  walk_path u (x ∷ xs) w h = (h.0, walk_path x xs w h.1)

  -- a walk through b, cut there
  record Cut (S : C → Type 0) (u : C) (xs : List C) (w b : C) : Type 0 where
    front : List C
    back : List C
    to : Walk R u front b
    from : Walk R b back w
    size : length front + length back < length xs
    front_all : All S front
    back_all : All S back

  cut : (S : C → Type 0) (u : C) (xs : List C) (w b : C) → Walk R u xs w → All S xs → Entry b xs → Cut S u xs w b
  cut S u [] w b p h m = absurd m
  cut S u (x ∷ xs) w b p h (inl e) =
      record {
        front = [];
        back = xs;
        to = subst (λ (y : C). R u y) e p.0;
        from = subst (λ (y : C). Walk R y xs w) e p.1;
        size = omega arith;
        front_all = tt;
        back_all = h.1;
      }
  cut S u (x ∷ xs) w b p h (inr m) =
      let r = cut S x xs w b p.1 h.1 m in
      record {
        front = x ∷ r.front;
        back = r.back;
        to = (p.0, r.to);
        from = r.from;
        size = omega arith;
        front_all = (h.0, r.front_all);
        back_all = r.back_all;
      }

  -- the same loop, from b
  pub record Turned (S : C → Type 0) (n : ℕ) (b : C) : Type 0 where
    pub rest : List C
    pub round : Walk R b rest b
    pub size : length rest ≤ n
    pub rest_all : All S rest

  pub turn : (S : C → Type 0) (u : C) (xs : List C) (b : C) → Walk R u xs u → All S (u ∷ xs) → Entry b (u ∷ xs) → Turned S (length xs) b
  turn S u xs b p h (inl e) =
      record { rest = xs; round = subst (λ (y : C). Walk R y xs y) e p; size = omega arith; rest_all = h.1 }
  turn S u xs b p h (inr m) =
      let r = cut S u xs u b p h.1 m in
      record {
        rest = r.back ++ u ∷ r.front;
        round = walk_join b r.back u r.front b r.from r.to;
        size = omega (arith, length-append r.back (u ∷ r.front), r.size);
        rest_all = all_append S r.back (u ∷ r.front) r.back_all (h.0, r.front_all);
      }

  -- a walk of two steps or more, cut before its last
  pub record Before (S : C → Type 0) (u : C) (n : ℕ) (w : C) : Type 0 where
    pub last : C
    pub way : List C
    pub to : Walk R u way last
    pub step : R last w
    pub size : length way ≤ n
    pub last_all : S last
    pub way_all : All S way

  pub cut_last : (S : C → Type 0) (u x : C) (xs : List C) (w : C) → Walk R u (x ∷ xs) w → All S (x ∷ xs) → Before S u (length xs) w
  cut_last S u x [] w p h =
      record { last = x; way = []; to = p.0; step = p.1; size = omega arith; last_all = h.0; way_all = tt }
  cut_last S u x (y ∷ ys) w p h =
      let r = cut_last S x y ys w p.1 h.1 in
      record {
        last = r.last;
        way = x ∷ r.way;
        to = (p.0, r.to);
        step = r.step;
        size = omega arith;
        last_all = r.last_all;
        way_all = (h.0, r.way_all);
      }
