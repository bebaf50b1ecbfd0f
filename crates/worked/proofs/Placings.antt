-- What a placing comes to, checked cell by cell.
use Rattle.std.proofs.Common.{◌≡◌, ℕ, ◌+◌, ◌*◌, ◌<◌, Bool, true, cond, ◌&&◌, List, map, length, Some, Ok, Err, refl, ap, ◌∙◌, subst}
use Rattle.std.proofs.lemmas.Bool.{and_parts, not-true, cond-true, cond-false}
use Rattle.refusal.specs.declared.fault.SheetFault.TheVariants.{OddCentre}
use Rattle.length.specs.Kind.{Laws, Even, largest_size}
use Rattle.length.specs.Kinds.{plain, plain_kind, half_up}
use Rattle.length.specs.declared.Plain.{Plain}
use Rattle.placement.specs.Meaning.{Meaning, Lawful}
use Rattle.placement.specs.Couples.{Clean}
use Rattle.placement.specs.Placements.{Sizes}
use Rattle.placement.specs.Across.{Node, cell, image, In}
use Rattle.placement.specs.Rule.{middle, Given}
use Rattle.placement.proofs.RulePlaces.{rule_places_lem}
use Rattle.placement.proofs.Best.{rule_is_best_lem}
use Rattle.placing.specs.Sizes.{Each, Sized, Matched, Balanced, odd_centre, entries}
use Rattle.placing.specs.Placing.{Five, Fitting, Placing, placed, unlawful}
use Rattle.worked.specs.Cases.{Measures, unfilled, filled, extent}
use Rattle.worked.proofs.Tests.{Test, so, like, both, lacks, gives, less, at_most, equal, every, named_so, named_all}
use Rattle.worked.proofs.Deciding.{up?}
use Rattle.worked.proofs.Across.{mirror, imaged, last, Stands, stands?, in_is, in_mirror, longest_is}
use Rattle.worked.proofs.Downward.{Piles, piles?, Deep, deep?, depth_is, bottom_is}

-- The lists and the sizes

abbrev pub fitting? : (n : ℕ) (l : Five Plain) → Test (Fitting n l)
fitting? n l =
    like
    (λ h. record { one_width = h.0; one_height = h.1.0; two_of_work = h.1.1.0; one_x = h.1.1.1.0; one_y = h.1.1.1.1 })
    (λ f. (f.one_width, (f.one_height, (f.two_of_work, (f.one_x, f.one_y)))))
    (both (equal (length l.widths) n) (both (equal (length l.heights) n) (both (equal (length l.work) (2 * n)) (both (equal (length l.x) n) (equal (length l.y) n)))))

abbrev same_length? : (u v : Plain) → Test (u ≡ v)
same_length? u v = like (ap plain) (ap (λ (t : Plain). t.0)) (equal u.0 v.0)

abbrev size? : (u : Plain) → Test (plain_kind.size u)
size? u = both (less 0 u.0) (at_most u.0 largest_size)

abbrev even? : (u : Plain) → Test (Even plain_kind u)
even? u = same_length? (plain_kind.lower u) (plain_kind.upper u)

module _ (m : Meaning) (w h : ℕ → Plain) where
  abbrev pub n : ℕ
  n = m.order.count

  abbrev pub sized? : Test (Each n (Sized plain_kind w h))
  sized? = every n (λ a. like (λ p. record { wide = p.0; high = p.1 }) (λ s. (s.wide, s.high)) (both (size? (w a)) (size? (h a))))

  abbrev pub matched? : Test (Each n (Matched m.mate w h))
  matched? =
      every n (λ a. named_all (m.mate a) (λ b.
      like (λ p. record { same_width = p.0; same_height = p.1 }) (λ s. (s.same_width, s.same_height))
      (both (same_length? (w a) (w b)) (same_length? (h a) (h b)))))

  abbrev centred? : (a : ℕ) → Test (m.mate a ≡ Some a)
  centred? a = like (λ h. h.1 ∙ ap Some h.2) (λ e. (a, e, refl)) (named_so (m.mate a) (λ b. equal b a))

  abbrev pub balanced? : (k : ℕ) → Test (Each k (Balanced plain_kind m.mate w))
  balanced? k = every k (λ a. gives (centred? a) (even? (w a)))

  abbrev pub sizes? : Test (Each n (Sized plain_kind w h) × (Each n (Matched m.mate w h) × Each n (Balanced plain_kind m.mate w)))
  sizes? = both sized? (both matched? (balanced? n))

  pub sizes_are : sizes?.holds ≡ true → Sizes plain_kind m w h
  sizes_are e =
      let (sized, (matched, balanced)) = so sizes? e in
      record {
        wide = λ a here. (sized a here).wide;
        high = λ a here. (sized a here).high;
        same_width = λ a b mate. (matched a mate.cell b mate.told).same_width;
        same_height = λ a b mate. (matched a mate.cell b mate.told).same_height;
        even = λ a mate. balanced a mate.cell mate.told;
      }

  abbrev pub uneven? : (a : ℕ) → Test ((a < n) × (Each n (Sized plain_kind w h) × (Each n (Matched m.mate w h) × (Each a (Balanced plain_kind m.mate w) × ((m.mate a ≡ Some a) × (Even plain_kind (w a) → ⊥))))))
  uneven? a = both (less a n) (both sized? (both matched? (both (balanced? a) (both (centred? a) (lacks (even? (w a)))))))

abbrev pub lengths : List ℕ → ℕ → Plain
lengths ns = entries plain_kind (map plain ns)

-- A placing that is refused for an odd width

abbrev pub is_odd : Meaning → List ℕ → List ℕ → ℕ → Bool
is_odd m w h a = (fitting? m.order.count (unfilled m.order.count w h)).holds && (uneven? m (lengths w) (lengths h) a).holds

pub refused_odd : (m : Meaning) (w h : List ℕ) (a : ℕ) → is_odd m w h a ≡ true → Placing plain_kind m (unfilled m.order.count w h) (unfilled m.order.count w h) (Err (OddCentre a))
refused_odd m w h a e =
    let (fits, bad) = and_parts _ _ e in
    let (here, (sized, (matched, (balanced, (told, uneven))))) = so (uneven? m (lengths w) (lengths h) a) bad in
    unlawful (so (fitting? _ _) fits) (odd_centre here sized matched balanced told uneven) refl

-- A placing that is done

module _ (m : Meaning) (v : Measures) where
  abbrev cells : ℕ
  cells = m.order.count

  abbrev before : Node → Plain
  before (cell a) = lengths v.work a
  before (image a) = lengths v.work (cells + a)

  abbrev twice : ℕ → Plain
  twice a = middle plain_kind (plain (v.half + v.half)) (lengths v.widths a) (lengths v.work a) (lengths v.work (cells + a))

  -- each left edge is a half, rounded as the rule says; and each image's entry of the work list is what stands before it
  abbrev Edges : Type 0
  Edges = (a : ℕ) → a < cells → (lengths v.x a ≡ cond (up? m a).holds (plain_kind.upper (twice a)) (plain_kind.lower (twice a))) × (before (mirror m a) ≡ lengths v.work (cells + a))

  abbrev edges? : Test Edges
  edges? = every cells (λ a. both (same_length? (lengths v.x a) (cond (up? m a).holds (plain_kind.upper (twice a)) (plain_kind.lower (twice a)))) (same_length? (before (mirror m a)) (lengths v.work (cells + a))))

  abbrev Values : Type 0
  Values =
      Stands m (lengths v.widths) before
      × ((v.half ≡ half_up (last m (lengths v.widths) before cells))
      × (Edges × (Piles m (lengths v.heights) (lengths v.y) × Deep m (lengths v.heights) (lengths v.y) v.depth)))

  abbrev values? : Test Values
  values? =
      both (stands? m (lengths v.widths) before)
      (both (equal v.half (half_up (last m (lengths v.widths) before cells)))
      (both edges? (both (piles? m (lengths v.heights) (lengths v.y)) (deep? m (lengths v.heights) (lengths v.y) v.depth))))

  abbrev pub is_placed : Bool
  is_placed =
      (fitting? cells (unfilled cells v.widths v.heights)).holds
      && ((fitting? cells (filled v)).holds && ((sizes? m (lengths v.widths) (lengths v.heights)).holds && values?.holds))

  module _ (laws : Laws plain_kind) (lawful : Lawful m) where
    given : Sizes plain_kind m (lengths v.widths) (lengths v.heights) → Values
        → Given plain_kind m (lengths v.widths) (lengths v.heights) (lengths v.work) (λ a. lengths v.work (cells + a)) (lengths v.x) (lengths v.y) (plain v.half) (plain v.depth)
    given sizes (stands, (half, (edges, (piles, deep)))) =
        let wide : (a : ℕ) → a < cells → 0 < (lengths v.widths a).0 = λ a here. (sizes.wide a here).0 in
        let high : (a : ℕ) → a < cells → 0 < (lengths v.heights a).0 = λ a here. (sizes.high a here).0 in
        record {
          longest = plain (last m (lengths v.widths) before cells);
          longest_is = longest_is m (lengths v.widths) before laws lawful wide stands;
          half_is = ap plain half;
          before_is = λ a here. in_is m (lengths v.widths) before laws lawful wide stands (cell a) here;
          after_is = λ a u is. subst (In plain_kind m (lengths v.widths) u) (edges a (imaged is)).1 (in_mirror m (lengths v.widths) before laws lawful wide stands a u is);
          up = λ a here is. (edges a here).0 ∙ cond-true (up? m a).holds _ _ ((up? m a).decides.1 is);
          down = λ a here not. (edges a here).0 ∙ cond-false (up? m a).holds _ _ (not-true (up? m a).holds ((lacks (up? m a)).decides.1 not));
          bottoms = bottom_is m (lengths v.heights) (lengths v.y) laws lawful high piles;
          depth_is = depth_is m (lengths v.heights) (lengths v.y) v.depth deep;
        }

    pub place : Clean m → is_placed ≡ true → Fitting cells (filled v) × Placing plain_kind m (unfilled cells v.widths v.heights) (filled v) (Ok (extent v))
    place clean e =
        let (before_fits, rest) = and_parts _ _ e in
        let (after_fits, more) = and_parts _ _ rest in
        let (sizes, values) = and_parts _ _ more in
        let sized = sizes_are m (lengths v.widths) (lengths v.heights) sizes in
        let is_given = given sized (so values? values) in (
          so (fitting? _ _) after_fits,
          placed (so (fitting? _ _) before_fits) sized (record {
            given = is_given;
            placement = rule_places_lem laws m lawful clean _ _ _ _ _ _ _ _ sized is_given;
            best = rule_is_best_lem laws m lawful _ _ _ _ _ _ _ _ sized is_given;
          }),
        )
