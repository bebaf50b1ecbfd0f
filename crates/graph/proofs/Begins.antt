-- The join over the paths from a node, made by one next node after another, and what a turn of that loop keeps. Assumes nothing.
use Rattle.std.proofs.Common.{◌≡◌, ℕ, ◌+◌, ◌-◌, ◌*◌, ◌<◌, ◌≤◌, List, [], ◌∷◌, length, get_or, set, sym, refl, subst, ◌∙◌, ⊎_elim, arith}
use Rattle.std.proofs.lemmas.List.{get_or-set_same, get_or-set_other}
use Rattle.std.proofs.lemmas.Bool.{cases_eq}
use Rattle.length.specs.Kind.{Kind, Laws, largest_size, sum_limit}
use Rattle.length.proofs.Algebra.{plus_keeps_left}
use Rattle.length.proofs.Joins.{join_same, join_shift}
use Rattle.placement.specs.Walks.{Path}
use Rattle.placement.specs.Downward.{total}
use Rattle.graph.specs.declared.node_set.NodeSet.{NodeSet}
use Rattle.graph.specs.declared.graph.Graph.{Graph}
use Rattle.graph.specs.declared.paths.Walk.{Walk}
use Rattle.graph.specs.Nodes.{Has, most_nodes}
use Rattle.graph.specs.Members.{Inserted, Taken}
use Rattle.graph.specs.Steps.{Step}
use Rattle.graph.specs.Heaviest.{dealt, Light}
use Rattle.graph.specs.Settling.{Reach, Weighs, Known, Settled, SettledIn, GoneOn}
use Rattle.graph.proofs.Weights.{weighs_join, weighs_plus, plus_answers}

-- the paths from v whose first step is not left to be taken
abbrev pub Begun : Graph → ℕ → NodeSet → List ℕ → Type 0
Begun g v left [] = Unit {0}
Begun g v left (u ∷ us) = Step g v u × (Has left u → ⊥) × Path (Step g) u us

-- the walk w gone on to t at v, where `left` is still to be taken, and `most` is the join so far
pub record Underway {V : Type 0} (k : Kind V) (w t : Walk V) (v : ℕ) (left : NodeSet) (most : V) : Type 0 where
  pub on : GoneOn w t
  pub begun : Known k w.graph.now (dealt k.zero w.weights.now) v (Begun w.graph.now v left) most
  pub settled : SettledIn k t
  pub steps : (u : ℕ) → Has left u → Step w.graph.now v u

pub gone_on : {V : Type 0} (w t u : Walk V) → GoneOn w t → GoneOn t u → GoneOn w u
gone_on w t u first second = record {
  graph = second.graph ∙ first.graph;
  weights = second.weights ∙ first.weights;
  place = second.place ∙ first.place;
  grown = λ x h. second.grown x (first.grown x h);
}

-- what is taken is a node
pub taken_inside : (g : Graph) (v u : ℕ) {left rest : NodeSet} → ((x : ℕ) → Has left x → Step g v x) → Taken left rest u → u < g.nodes
taken_inside g v u steps taken = g.within v u (steps u taken.member).1

-- the paths from a next node are shorter
pub reach_next : (g : Graph) (v u n : ℕ) → Step g v u → Reach g v n → (0 < n) × Reach g u (n - 1)
reach_next g v u n step reach = (some, λ us path. shorter us (reach (u ∷ us) (step, path)))
  where
    some : 0 < n
    some = let one : length (u ∷ []) ≤ n = reach (u ∷ []) (step, tt) in omega arith

    shorter : (us : List ℕ) → length (u ∷ us) ≤ n → length us ≤ n - 1
    shorter us h = omega arith

module _ {V : Type 0} {k : Kind V} (laws : Laws k) (g : Graph) (weight : ℕ → V) where
  pub begun_all : (v : ℕ) (left : NodeSet) (x : V) → ((u : ℕ) → Has left u → ⊥) → Known k g weight v (Begun g v left) x → Known k g weight v (Path (Step g) v) x
  begun_all v left x nothing so = record {
    joined = join_same into from so.joined;
    ends = (so.ends.0, λ us path. so.ends.1 us (from us path));
    light = so.light;
  }
    where
      into : (us : List ℕ) → Begun g v left us → Path (Step g) v us
      into [] h = tt
      into (u ∷ us) h = (h.0, h.2)

      from : (us : List ℕ) → Path (Step g) v us → Begun g v left us
      from [] h = tt
      from (u ∷ us) h = (h.0, nothing u, h.1)

  module _ (v u : ℕ) (left rest : NodeSet) (x y : V) (so : Known k g weight v (Begun g v left) x) (taken : Taken left rest u) (step : Step g v u) (known : Known k g weight u (Path (Step g) u) y) where
    still_begun : (us : List ℕ) → Begun g v left us → Begun g v rest us
    still_begun [] h = tt
    still_begun (z ∷ us) h = (h.0, λ there. h.1 (taken.only z there).0, h.2)

    through : (us : List ℕ) → Path (Step g) u us → k.at_most (k.plus (weight u) (total k weight us)) (k.plus y (weight u))
    through us path = subst (λ (b : V). k.at_most (k.plus (weight u) (total k weight us)) b) (laws.plus_comm (weight u) y) (plus_keeps_left laws _ _ (weight u) (known.joined.above us path))

    above : (us : List ℕ) → Begun g v rest us → k.at_most (total k weight us) (k.join x (k.plus y (weight u)))
    above [] h = laws.zero_least _
    above (z ∷ us) h = ⊎_elim
        (λ (e : z ≡ u). laws.at_most_trans _ _ _ (subst (λ (c : ℕ). k.at_most (k.plus (weight c) (total k weight us)) (k.plus y (weight u))) (sym e) (through us (subst (λ (c : ℕ). Path (Step g) c us) e h.2))) (laws.join_right x _))
        (λ (ne : z ≡ u → ⊥). laws.at_most_trans _ _ _ (so.joined.above (z ∷ us) (h.0, λ there. h.1 (taken.kept z there ne), h.2)) (laws.join_left x _))
        (cases_eq z u)

    least : (b : V) → ((us : List ℕ) → Begun g v rest us → k.at_most (total k weight us) b) → k.at_most (k.join x (k.plus y (weight u))) b
    least b every =
        laws.join_least _ _ _
        (so.joined.least b (λ us h. every us (still_begun us h)))
        ((join_shift laws (total k weight) y (weight u) [] tt known.joined).least b
        (λ us path. subst (λ (a : V). k.at_most a b) (laws.plus_comm (weight u) (total k weight us)) (every (u ∷ us) (step, λ there. (taken.only u there).1 refl, path))))

    ends : (us : List ℕ) → Begun g v rest us → length us ≤ so.ends.0 + known.ends.0 + 1
    ends [] h = omega arith
    ends (z ∷ us) h = ⊎_elim
        (λ (e : z ≡ u). let few : length us ≤ known.ends.0 = known.ends.1 us (subst (λ (c : ℕ). Path (Step g) c us) e h.2) in omega arith)
        (λ (ne : z ≡ u → ⊥). let few : length (z ∷ us) ≤ so.ends.0 = so.ends.1 (z ∷ us) (h.0, λ there. h.1 (taken.kept z there ne), h.2) in omega arith)
        (cases_eq z u)

    light : Light k g weight → (n : ℕ) → Reach g v n → Weighs k (n * largest_size) (k.join x (k.plus y (weight u)))
    light small n reach =
        let next = reach_next g v u n step reach in
        let one : 0 < n = next.0 in
        let same : (n - 1) * largest_size + largest_size ≡ n * largest_size = omega arith in
        weighs_join laws (n * largest_size) x _ (so.light small n reach)
        (subst (λ (m : ℕ). Weighs k m (k.plus y (weight u))) same
        (weighs_plus laws ((n - 1) * largest_size) y (weight u) (known.light small (n - 1) next.1) (small u (g.within v u step.1))))

    begun_more : Known k g weight v (Begun g v rest) (k.join x (k.plus y (weight u)))
    begun_more = record { joined = record { above = above; least = least }; ends = (so.ends.0 + known.ends.0 + 1, ends); light = light }

  pub settled_more : (done all : NodeSet) (out : List V) (v : ℕ) (x : V) → v < length out → Inserted done all v → Known k g weight v (Path (Step g) v) x → Settled k g weight done (λ u. get_or out u k.zero) → Settled k g weight all (λ u. get_or (set out v x) u k.zero)
  settled_more done all out v x inside inserted known before u has = ⊎_elim
      (λ (e : u ≡ v). subst (λ (c : ℕ). Known k g weight c (Path (Step g) c) (get_or (set out v x) c k.zero)) (sym e) (subst (λ (y : V). Known k g weight v (Path (Step g) v) y) (sym (get_or-set_same out v x k.zero inside)) known))
      (λ (ne : u ≡ v → ⊥). subst (λ (y : V). Known k g weight u (Path (Step g) u) y) (sym (get_or-set_other out v u x k.zero ne))
      (before u (⊎_elim (λ (old : Has done u). old) (λ (e : u ≡ v). absurd (ne e)) (inserted.only u has))))
      (cases_eq u v)

-- what a walk has settled is settled in the one that it has gone on from
pub settled_on : {V : Type 0} {k : Kind V} (w t : Walk V) → GoneOn w t → SettledIn k t → Settled k w.graph.now (dealt k.zero w.weights.now) t.done (λ u. get_or t.out.now u k.zero)
settled_on w t on settled = rw (on.graph, on.weights) at settled

-- the walk w gone on to t, in which u is done
pub record DoneAt {V : Type 0} (k : Kind V) (w t : Walk V) (u : ℕ) : Type 0 where
  pub on : GoneOn w t
  pub settled : SettledIn k t
  pub there : Has t.done u

pub gone_same : {V : Type 0} (w : Walk V) → GoneOn w w
gone_same w = record { graph = refl; weights = refl; place = refl; grown = λ u h. h }

-- a turn of the loop: the node u is taken, and the walk has gone on to t, in which u is done
module _ {V : Type 0} {k : Kind V} (laws : Laws k) (w before t : Walk V) (v u : ℕ) (left rest : NodeSet) (most : V) (way : Underway k w before v left most) (taken : Taken left rest u) (next : DoneAt k before t u) where
  all_on : GoneOn w t
  all_on = gone_on w before t way.on next.on

  known : Known k w.graph.now (dealt k.zero w.weights.now) u (Path (Step w.graph.now) u) (get_or t.out.now u k.zero)
  known = settled_on w t all_on next.settled u next.there

  step : Step w.graph.now v u
  step = way.steps u taken.member

  pub underway_more : Underway k w t v rest (k.join most (k.plus (get_or t.out.now u k.zero) (dealt k.zero t.weights.now u)))
  underway_more = record {
    on = all_on;
    begun = rw all_on.weights (begun_more laws w.graph.now (dealt k.zero w.weights.now) v u left rest most (get_or t.out.now u k.zero) way.begun taken step known);
    settled = next.settled;
    steps = λ x h. way.steps x (taken.only x h).0;
  }

  pub sum_fits : (n : ℕ) → n ≤ most_nodes → Light k w.graph.now (dealt k.zero w.weights.now) → Reach w.graph.now v n → k.measure (get_or t.out.now u k.zero) + k.measure (dealt k.zero t.weights.now u) ≤ sum_limit
  sum_fits n few small reach =
      rw all_on.weights
      (plus_answers laws (n - 1) (get_or t.out.now u k.zero) (dealt k.zero w.weights.now u) (omega arith) (known.light small (n - 1) (reach_next w.graph.now v u n step reach).1) (small u (w.graph.now.within v u step.1)))
