-- The graph downward: what is linked is what is under, and its heaviest paths are the bottoms.
use Rattle.std.proofs.Common.{◌≡◌, ℕ, ◌<◌, ◌⊎◌, List, [], ◌∷◌, Option, Some, None, sym, refl, ap, ◌∙◌, subst, subst₂, ap₂, inl, inr, arith}
use Rattle.std.specs.Prelude.{unwrap_or}
use Rattle.book.specs.Order.{AboveOf}
use Rattle.length.specs.Kind.{Kind, Laws}
use Rattle.length.proofs.Joins.{join_same, join_like}
use Rattle.placement.specs.Meaning.{Meaning, Cell, Lawful}
use Rattle.placement.specs.Couples.{Clean}
use Rattle.placement.specs.Downward.{total, Under, Descent, Bottom}
use Rattle.placement.proofs.DownwardLoops.{under_to_cell}
use Rattle.placement.proofs.ShortDescents.{descent_is_short}
use Rattle.graph.specs.declared.graph.Graph.{Graph}
use Rattle.graph.specs.Steps.{Step}
use Rattle.graph.specs.Heaviest.{Heaviest, Short, Light}
use Rattle.placing.specs.Graphs.{Falls, TwoSteps, OneOf, Built, DownFrom, above, not_above}
use Rattle.placing.specs.Reach.{Reached}
use Rattle.placing.specs.Values.{AllSizes, GivenDown}
use Rattle.placing.proofs.HeaviestSteps.{path_same}

mate_or_self : (o : Option ℕ) (a x : ℕ) → x ≡ unwrap_or o a → (x ≡ a) ⊎ (o ≡ Some x)
mate_or_self None a x e = inl e
mate_or_self (Some c) a x e = inr (ap Some (sym e))

module _ {m : Meaning} (lawful : Lawful m) where
  under_by : {a b : ℕ} {r : TwoSteps} (v u : ℕ) → DownFrom m a b r → OneOf r v u → Under m v u
  under_by v u (above over) (inl (from, to)) = inl (subst₂ (AboveOf m.order) (sym from) (sym to) over)
  under_by {a} v u (above over) (inr (from, to)) =
      let below : AboveOf m.order a u = subst (AboveOf m.order a) (sym to) over in
      elim (mate_or_self (m.mate a) a v from) [
        | inl e ↦ inl (subst (λ (x : ℕ). AboveOf m.order x u) (sym e) below)
        | inr told ↦ inr (a, lawful.both_ways a v (record { cell = over.apart.a_in; told = told }), below)
      ]
  under_by v u (not_above not) none = absurd none

  by_above : {a b : ℕ} {r : TwoSteps} (x : ℕ) → DownFrom m a b r → AboveOf m.order a b → (x ≡ a) ⊎ (m.mate a ≡ Some x) → OneOf r x b
  by_above x (above it) over (inl e) = inl (e, refl)
  by_above {a} x (above it) over (inr told) = inr (sym (ap (λ (o : Option ℕ). unwrap_or o a) told), refl)
  by_above x (not_above not) over its = absurd (not over)

  pub falls_given :
      {n : ℕ} {gives : ℕ → ℕ → TwoSteps → Type 0} (g : Graph) → n ≡ m.order.count →
      Built n gives (λ a b. (a < n) × (b < n)) g →
      ((a b : ℕ) (r : TwoSteps) → gives a b r → DownFrom m a b r) →
      Falls m g
  falls_given {n} {gives} g same so of =
      let step : (a b v : ℕ) → AboveOf m.order a b → (v ≡ a) ⊎ (m.mate a ≡ Some v) → Cell m v → Step g v b
      = λ a b v over its here.
      let s = so.all a b (omega (arith, over.apart.a_in, same), omega (arith, over.apart.b_in, same)) in
      s.2 v b (by_above v (of a b s.0 s.1) over its) (omega (arith, here, same)) (omega (arith, over.apart.b_in, same)) in
      record {
        count = so.count ∙ same;
        only = λ v u step. let s = so.only v u step in under_by v u (of s.0 s.1 s.3 s.4) s.5;
        all = λ v u under. elim under [
          | inl over ↦ step v u v over (inl refl) over.apart.a_in
          | inr (c, mate, over) ↦ step c u v over (inr (lawful.both_ways v c mate).told) mate.cell
        ];
      }

module _ {m : Meaning} {g : Graph} (falls : Falls m g) where
  pub falls_short : Lawful m → Clean m → Short g
  falls_short lawful clean v us path =
      let short = descent_is_short m lawful clean v us (path_same (Step g) (Under m) falls.only v us path) in
      omega (arith, falls.count)

  -- where each cell weighs its height
  module _ {V : Type 0} {k : Kind V} (laws : Laws k) (h weight : ℕ → V) (weighs : (a : ℕ) → Cell m a → weight a ≡ h a) where
    pub falls_light : AllSizes k m h → Light k g weight
    falls_light sizes u low =
        let here : Cell m u = omega (arith, falls.count) in
        rw (weighs u here) (laws.size_small (h u) (sizes u here))

    descent_heights : (a : ℕ) (us : List ℕ) → Descent m a us → total k weight us ≡ total k h us
    descent_heights a [] path = refl
    descent_heights a (b ∷ us) path = ap₂ k.plus (weighs b (under_to_cell path.0)) (descent_heights b us path.1)

    falls_bottom : (y : ℕ → V) → Heaviest k g weight y → (a : ℕ) → Cell m a → Bottom k m h a (y a)
    falls_bottom y heaviest a here =
        join_like (total k weight) (total k h) (descent_heights a)
        (join_same (path_same (Step g) (Under m) falls.only a) (path_same (Under m) (Step g) falls.all a)
        (heaviest.each a (omega (arith, falls.count))))

    pub given_down : (y : ℕ → V) (depth : V) → Reached k g weight y depth → GivenDown k m h y depth
    given_down y depth so = record {
      bottoms = falls_bottom y so.heaviest;
      depth_is =
          join_like (λ (a : ℕ). k.plus (y a) (weight a)) (λ (a : ℕ). k.plus (y a) (h a)) (λ a here. ap (k.plus (y a)) (weighs a here))
          (join_same (λ a low. omega (arith, falls.count)) (λ a low. omega (arith, falls.count)) so.end_is);
    }
