-- Lists and sizes that pass have no fault to tell, and those that do not have one.
use Rattle.std.proofs.Common.{◌≡◌, ℕ, ◌*◌, ◌<◌, true, false, cond, eqb, ◌≢◌, sym, ap, ◌∙◌, subst, arith}
use Rattle.std.proofs.lemmas.Bool.Decides.{nat_tests}
use Rattle.refusal.specs.declared.fault.Side.TheVariants.{Width, Height}
use Rattle.refusal.specs.declared.fault.SheetFault.{SheetFault}
use Rattle.refusal.specs.declared.fault.SheetFault.TheVariants.{NotASize, ListLength, OddCentre}
use Rattle.length.specs.Kind.{Kind}
use Rattle.placement.specs.Meaning.{Meaning, Mate}
use Rattle.placement.specs.Placements.{Sizes}
use Rattle.group.proofs.Tables.{same_some}
use Rattle.placing.specs.Sizes.{Lists, NoLists, widths_length, heights_length, work_length, x_length, y_length, Each, Sized, Unlawful, no_width, no_height, pair_differs, odd_centre, ListsExact, SizesExact}

equal : {a b : ℕ} → a ≡ b → eqb a b ≡ true
equal {a} {b} e = grind (arith, nat_tests)

unequal : {a b : ℕ} → a ≢ b → eqb a b ≡ false
unequal {a} {b} ne = grind (arith, nat_tests)

module _ (n widths heights work x y : ℕ) where
  lists_never_both : (f : SheetFault) → NoLists n widths heights work x y f → Lists n widths heights work x y → ⊥
  lists_never_both _ (widths_length bad) right = bad right.one_width
  lists_never_both _ (heights_length _ bad) right = bad right.one_height
  lists_never_both _ (work_length _ _ bad) right = bad right.two_of_work
  lists_never_both _ (x_length _ _ _ bad) right = bad right.one_x
  lists_never_both _ (y_length _ _ _ _ bad) right = bad right.one_y

  -- the place of the first list of a wrong length, where there is one
  first_wrong : ℕ
  first_wrong = cond (eqb widths n) (cond (eqb heights n) (cond (eqb work (2 * n)) (cond (eqb x n) 5 4) 3) 2) 1

  tells_first_wrong : (f : SheetFault) → NoLists n widths heights work x y f → f ≡ ListLength first_wrong
  unfolding first_wrong
  tells_first_wrong _ (widths_length bad) = simp (unequal bad)
  tells_first_wrong _ (heights_length w bad) = simp (equal w, unequal bad)
  tells_first_wrong _ (work_length w h bad) = simp (equal w, equal h, unequal bad)
  tells_first_wrong _ (x_length w h d bad) = simp (equal w, equal h, equal d, unequal bad)
  tells_first_wrong _ (y_length w h d l bad) = simp (equal w, equal h, equal d, equal l)

pub lists_exact : ListsExact
lists_exact n widths heights work x y = record {
  never_both = lists_never_both n widths heights work x y;
  only_one = λ e f one two. tells_first_wrong n widths heights work x y e one ∙ sym (tells_first_wrong n widths heights work x y f two);
}

-- two numbers, neither below the other
level : (a b : ℕ) → (a < b → ⊥) → (b < a → ⊥) → a ≡ b
level a b up down = omega arith

module _ {V : Type 0} (k : Kind V) (m : Meaning) (w h : ℕ → V) where
  abbrev Tells : SheetFault → Type 0
  Tells = Unlawful k m.mate m.order.count w h

  sizes_never_both : (f : SheetFault) → Tells f → Sizes k m w h → ⊥
  sizes_never_both _ (no_width {a = a} cell _ bad) right = bad (right.wide a cell)
  sizes_never_both _ (no_height {a = a} cell _ _ bad) right = bad (right.high a cell)
  sizes_never_both _ (pair_differs {a = a} {b = b} low cell _ _ told differ) right =
      let here : a < m.order.count = omega arith in
      let mate : Mate m a b = record { cell = here; told = told } in
      differ (record { same_width = right.same_width a b mate; same_height = right.same_height a b mate })
  sizes_never_both _ (odd_centre {a = a} cell _ _ _ told odd) right = odd (right.even a (record { cell = cell; told = told }))

  -- a width and a height cannot both be the first that is no size
  width_first : (a b : ℕ) → Each a (Sized k w h) → (k.size (w a) → ⊥) → Each b (Sized k w h) → k.size (w b) → (k.size (h b) → ⊥) → ⊥
  width_first a b below bad below' wide bad' =
      let same = level a b (λ low. bad (below' a low).wide) (λ low. bad' (below b low).high) in
      bad (subst (λ (c : ℕ). k.size (w c)) (sym same) wide)

  sizes_only_one : (e f : SheetFault) → Tells e → Tells f → e ≡ f
  sizes_only_one _ _ (no_width {a = a} _ below bad) (no_width {a = b} _ below' bad') =
      ap (λ (c : ℕ). NotASize c Width) (level a b (λ low. bad (below' a low).wide) (λ low. bad' (below b low).wide))
  sizes_only_one _ _ (no_width {a = a} _ below bad) (no_height {a = b} _ below' wide bad') = absurd (width_first a b below bad below' wide bad')
  sizes_only_one _ _ (no_width {a = a} cell _ bad) (pair_differs _ _ sized _ _ _) = absurd (bad (sized a cell).wide)
  sizes_only_one _ _ (no_width {a = a} cell _ bad) (odd_centre _ sized _ _ _ _) = absurd (bad (sized a cell).wide)
  sizes_only_one _ _ (no_height {a = a} _ below wide bad) (no_width {a = b} _ below' bad') = absurd (width_first b a below' bad' below wide bad)
  sizes_only_one _ _ (no_height {a = a} _ below _ bad) (no_height {a = b} _ below' _ bad') =
      ap (λ (c : ℕ). NotASize c Height) (level a b (λ low. bad (below' a low).high) (λ low. bad' (below b low).high))
  sizes_only_one _ _ (no_height {a = a} cell _ _ bad) (pair_differs _ _ sized _ _ _) = absurd (bad (sized a cell).high)
  sizes_only_one _ _ (no_height {a = a} cell _ _ bad) (odd_centre _ sized _ _ _ _) = absurd (bad (sized a cell).high)
  sizes_only_one _ _ (pair_differs _ _ sized _ _ _) (no_width {a = b} cell _ bad) = absurd (bad (sized b cell).wide)
  sizes_only_one _ _ (pair_differs _ _ sized _ _ _) (no_height {a = b} cell _ _ bad) = absurd (bad (sized b cell).high)
  sizes_only_one _ _ (pair_differs {a = a} {b = b} _ _ _ below told differ) (pair_differs {a = c} {b = d} _ _ _ below' told' differ') =
      let same = level a c (λ low. differ (below' a low b told)) (λ low. differ' (below c low d told')) in
      let mates : b ≡ d = same_some told (ap m.mate same ∙ told') in
      cc
  sizes_only_one _ _ (pair_differs {a = a} {b = b} low cell _ _ told differ) (odd_centre _ _ matched _ _ _) = absurd (differ (matched a (omega arith) b told))
  sizes_only_one _ _ (odd_centre _ sized _ _ _ _) (no_width {a = b} cell _ bad) = absurd (bad (sized b cell).wide)
  sizes_only_one _ _ (odd_centre _ sized _ _ _ _) (no_height {a = b} cell _ _ bad) = absurd (bad (sized b cell).high)
  sizes_only_one _ _ (odd_centre _ _ matched _ _ _) (pair_differs {a = a} {b = b} low cell _ _ told differ) = absurd (differ (matched a (omega arith) b told))
  sizes_only_one _ _ (odd_centre {a = a} _ _ _ below told odd) (odd_centre {a = b} _ _ _ below' told' odd') =
      ap (λ (c : ℕ). OddCentre c) (level a b (λ low. odd (below' a low told)) (λ low. odd' (below b low told')))

pub sizes_exact : {V : Type 0} (k : Kind V) → SizesExact k
sizes_exact k m w h = record { never_both = sizes_never_both k m w h; only_one = sizes_only_one k m w h }
