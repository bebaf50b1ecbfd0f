-- The graph across: what is linked is what precedes, by numbers; its paths are short, and its nodes light.
use Rattle.std.proofs.Common.{◌≡◌, ℕ, ◌+◌, ◌*◌, ◌<◌, ◌⊎◌, sym, refl, ap, ◌∙◌, subst, subst₂, inl, inr, arith}
use Rattle.book.specs.Order.{LeftOf}
use Rattle.length.specs.Kind.{Kind, Laws}
use Rattle.placement.specs.Meaning.{Meaning, Cell, Lawful}
use Rattle.placement.specs.Couples.{Clean}
use Rattle.placement.specs.Across.{Node, cell, Image, of_mate, of_free, node_width, Precedes, straight, mirrored}
use Rattle.placement.proofs.Mates.{grouped_or_free}
use Rattle.graph.specs.declared.graph.Graph.{Graph}
use Rattle.graph.specs.Steps.{Step}
use Rattle.graph.specs.Heaviest.{Short, Light}
use Rattle.placing.specs.Codes.{node_of, image_of}
use Rattle.placing.specs.Graphs.{Sides, TwoSteps, OneOf, Built, AcrossFrom, left, not_left}
use Rattle.placing.specs.Values.{AllSizes}
use Rattle.placing.proofs.NodeCodes.{code, low, high, number, low_is_cell, high_is_image, code_of_node}
use Rattle.placing.proofs.CodedChains.{path_is_short}
use Rattle.placing.proofs.LongestChain.{as_wide_as_cell}

-- the number of a cell's image
abbrev pub facing_number : Meaning → ℕ → ℕ
facing_number m a = image_of m.order.count a (m.mate a)

module _ {m : Meaning} (lawful : Lawful m) where
  abbrev node : ℕ → Node
  node = node_of m.order.count

  abbrev code_in : Node → ℕ
  code_in = code m.order.count

  pub facing_is_image : (a : ℕ) → Cell m a → Image m a (node (facing_number m a))
  facing_is_image a here =
      elim (grouped_or_free m a here) [
        | inl (b, mate) ↦
            let e : facing_number m a ≡ b = ap (image_of m.order.count a) mate.told in
            let at : node b ≡ cell b = low_is_cell m.order.count b (lawful.both_ways a b mate).cell in
            subst (Image m a) (sym (ap node e ∙ at)) (of_mate mate)
        | inr free ↦
            let e : facing_number m a ≡ m.order.count + a = ap (image_of m.order.count a) free.told in
            subst (Image m a) (sym (ap node e ∙ high_is_image m.order.count a)) (of_free free)
      ]

  pub image_code : {a : ℕ} {u : Node} → Image m a u → code_in u ≡ facing_number m a
  image_code (of_mate {a} mate) = sym (ap (image_of m.order.count a) mate.told)
  image_code (of_free {a} free) = sym (ap (image_of m.order.count a) free.told)

  preceded_by : {a b : ℕ} {r : TwoSteps} (v u : ℕ) → AcrossFrom m a b r → OneOf r v u → Precedes m (node u) (node v)
  preceded_by {a} {b} v u (left over) (inl e) =
      let n = m.order.count in
      subst₂ (Precedes m)
      (sym (ap node e.1 ∙ low_is_cell n a over.apart.a_in))
      (sym (ap node e.0 ∙ low_is_cell n b over.apart.b_in))
      (straight over)
  preceded_by {a} {b} v u (left over) (inr e) =
      subst₂ (Precedes m) (sym (ap node e.1)) (sym (ap node e.0))
      (mirrored over (facing_is_image b over.apart.b_in) (facing_is_image a over.apart.a_in))
  preceded_by v u (not_left not) none = absurd none

  image_below : {a : ℕ} {u : Node} → Cell m a → Image m a u → code_in u < 2 * m.order.count
  image_below {a} here (of_mate {b = b} mate) = let mate_in : b < m.order.count = (lawful.both_ways a b mate).cell in omega arith
  image_below here (of_free free) = omega (arith, here)

  -- q and p are the nodes that are given a step for a left of b
  abbrev Puts : ℕ → ℕ → Node → Node → Type 0
  Puts a b p q = ((code_in q ≡ b) × (code_in p ≡ a)) ⊎ ((code_in q ≡ facing_number m a) × (code_in p ≡ facing_number m b))

  put_by : {p q : Node} → Precedes m p q → (a b : ℕ) × LeftOf m.order a b × Puts a b p q × (code_in q < 2 * m.order.count) × (code_in p < 2 * m.order.count)
  put_by (straight {a} {b} over) = (a, b, over, inl (refl, refl), omega (arith, over.apart.b_in), omega (arith, over.apart.a_in))
  put_by (mirrored {a} {b} over of_b of_a) = (a, b, over, inr (image_code of_a, image_code of_b), image_below over.apart.a_in of_a, image_below over.apart.b_in of_b)

  by_left : {a b : ℕ} {r : TwoSteps} (p q : Node) → AcrossFrom m a b r → LeftOf m.order a b → Puts a b p q → OneOf r (code_in q) (code_in p)
  by_left p q (left it) over puts = puts
  by_left p q (not_left not) over puts = absurd (not over)

  pub sides_given :
      {n : ℕ} {gives : ℕ → ℕ → TwoSteps → Type 0} (g : Graph) → n ≡ m.order.count →
      Built (2 * n) gives (λ a b. (a < n) × (b < n)) g →
      ((a b : ℕ) (r : TwoSteps) → gives a b r → AcrossFrom m a b r) →
      Sides m g
  sides_given {n} {gives} g same so of =
      let step : (p q : Node) → Precedes m p q → Step g (code_in q) (code_in p)
      = λ p q before.
      let (a, b, over, puts, q_in, p_in) = put_by before in
      let s = so.all a b (omega (arith, over.apart.a_in, same), omega (arith, over.apart.b_in, same)) in
      s.2 (code_in q) (code_in p) (by_left p q (of a b s.0 s.1) over puts) (omega (arith, q_in, same)) (omega (arith, p_in, same)) in
      record {
        count = omega (arith, so.count, same);
        only = λ v u step. let s = so.only v u step in preceded_by v u (of s.0 s.1 s.3 s.4) s.5;
        all = λ v u before. subst₂ (Step g) (code_of_node m.order.count v) (code_of_node m.order.count u) (step (node u) (node v) before);
      }

-- the widths of the cells, and again of their images
abbrev pub Twice : {V : Type 0} → ℕ → (ℕ → V) → (ℕ → V) → Type 0
Twice n w weight = (a : ℕ) → a < n → (weight a ≡ w a) × (weight (n + a) ≡ w a)

pub twice_weighs : {V : Type 0} (n : ℕ) (w weight : ℕ → V) → Twice n w weight → (u : ℕ) → u < 2 * n → weight u ≡ node_width w (node_of n u)
twice_weighs n w weight twice u below =
    elim (number n u) [
      | low l ↦ (twice u l).0 ∙ sym (ap (node_width w) (low_is_cell n u l))
      | high a e ↦
          let inside : a < n = omega arith in
          ap weight e ∙ (twice a inside).1 ∙ sym (ap (λ (v : ℕ). node_width w (node_of n v)) e ∙ ap (node_width w) (high_is_image n a))
    ]

module _ {m : Meaning} {g : Graph} (sides : Sides m g) where
  pub sides_short : Lawful m → Clean m → Short g
  sides_short lawful clean v us path =
      let short = path_is_short lawful (Step g) sides.only sides.all clean v us path in
      omega (arith, sides.count)

  pub sides_light : {V : Type 0} {k : Kind V} (laws : Laws k) (w weight : ℕ → V) → Twice m.order.count w weight → AllSizes k m w → Light k g weight
  sides_light {k = k} laws w weight twice sizes u below =
      let inside : u < 2 * m.order.count = omega (arith, sides.count) in
      let a = as_wide_as_cell m.order.count w u inside in
      rw (twice_weighs m.order.count w weight twice u inside ∙ a.2) (laws.size_small (w a.0) (sizes a.0 a.1))
