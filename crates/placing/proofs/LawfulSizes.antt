-- What the three checks of sizes come to together, and that a pair's first fault is told at its lower cell.
use Rattle.std.proofs.Common.{◌≡◌, ℕ, ◌<◌, Bool, true, false, Some, Decides, Option, sym, refl, subst, inl, inr, arith}
use Rattle.std.proofs.lemmas.Bool.{cases_lt, cases_eq}
use Rattle.std.proofs.lemmas.Bool.Decides.{not_from_Decides}
use Rattle.length.specs.Kind.{Kind}
use Rattle.group.specs.declared.table.Group.{Group}
use Rattle.group.specs.Group.{mate_of}
use Rattle.placing.specs.Sizes.{Each, Sized, Agree, Matched, Balanced, Fit}

-- what a test of x tells of y, which is the same length
pub so_at : {V : Type 0} (P : V → Type 0) {x y : V} (r : Bool) → Decides r (P x) → x ≡ y → r ≡ true → P y
so_at P r test same so = subst P same (test.0 so)

pub not_at : {V : Type 0} (P : V → Type 0) {x y : V} (r : Bool) → Decides r (P x) → x ≡ y → r ≡ false → P y → ⊥
not_at P r test same not_so holds = not_from_Decides r test not_so (subst P (sym same) holds)

-- the lowest cell that differs from its mate is the lower of the two
pub lower_of_pair : {V : Type 0} (mate : ℕ → Option ℕ) (w h : ℕ → V) (a b : ℕ) → mate b ≡ Some a → Each a (Matched mate w h) → (Agree w h a b → ⊥) → a < b
lower_of_pair mate w h a b back before differ =
    elim (cases_lt a b) [
      | inl low ↦ low
      | inr high ↦
          elim (cases_eq a b) [
            | inl same ↦ absurd (differ (subst (λ (c : ℕ). Agree w h a c) same (record { same_width = refl; same_height = refl })))
            | inr apart ↦
                let both = before b (omega arith) a back in
                absurd (differ (record { same_width = sym both.same_width; same_height = sym both.same_height }))
          ]
    ]

-- the three checks make sizes lawful, whatever the order
pub fit : {V : Type 0} (k : Kind V) (g : Group) (w h : ℕ → V) → Each g.count (Sized k w h) → Each g.count (Matched (mate_of g) w h) → Each g.count (Balanced k (mate_of g) w) → Fit k g w h
fit k g w h sized matched balanced o same_count =
    let here : (a : ℕ) → a < o.count → a < g.count = λ a low. omega arith in
    record {
      wide = λ a cell. (sized a (here a cell)).wide;
      high = λ a cell. (sized a (here a cell)).high;
      same_width = λ a b mate. (matched a (here a mate.cell) b mate.told).same_width;
      same_height = λ a b mate. (matched a (here a mate.cell) b mate.told).same_height;
      even = λ a mate. balanced a (here a mate.cell) mate.told;
    }
