-- A part and its two rows: what the part tells of two cells, the rows tell, and nothing else.
use Rattle.std.proofs.Common.{◌≡◌, ℕ, ◌<◌, List, [], ◌∷◌, ◌++◌, length, sym, refl, ◌∙◌, subst, inl, inr, ⊎_elim, arith}
use Rattle.refusal.specs.declared.fault.SheetFault.{SheetFault}
use Rattle.book.specs.declared.relation.Relation.{Relation}
use Rattle.book.specs.declared.slicing.Waiting.{Waiting}
use Rattle.book.specs.Order.{Order, Apart}
use Rattle.book.specs.Counts.{Countable}
use Rattle.book.specs.Rows.{Earlier, Told, Row, Rows, NoRows}
use Rattle.book.specs.Rows as rows
use Rattle.book.specs.Slicing.{Part, cell, beside, stacked, leaves, In, PartOf, itself, beside_earlier, beside_later, stacked_earlier, stacked_later, Tells, left, right, above, below, Expression}
use Rattle.book.specs.Waiting.{upper, Whole}
use Rattle.book.proofs.Standing.{Stands, Single, Joined, ahead, behind, joined_stands, joined_either, joined_earlier, joined_length, joined_single, joined_apart, stands_one, one_stands, earlier_across, never_both, earlier_places, single_once, row_single, row_low, row_has}

-- no cell is on both sides of a join
abbrev Separate : Part → Type 0
Separate (cell k) = Unit {0}
Separate (beside p q) = Separate p × Separate q × ((a : ℕ) → In a p → In a q → ⊥)
Separate (stacked p q) = Separate p × Separate q × ((a : ℕ) → In a p → In a q → ⊥)

-- a way of writing each part as a row: a join has the rows of its two parts, in one order or the other
pub record Lays (row : Part → List ℕ) : Type 0 where
  pub one : (k : ℕ) → row (cell k) ≡ k ∷ []
  pub side : (p q : Part) → Joined (row p) (row q) (row (beside p q))
  pub pile : (p q : Part) → Joined (row p) (row q) (row (stacked p q))

leaves_lays : Lays leaves
leaves_lays = record { one = λ k. refl; side = λ p q. ahead; pile = λ p q. ahead }

upper_lays : Lays upper
upper_lays = record { one = λ k. refl; side = λ p q. ahead; pile = λ p q. behind }

module _ {row : Part → List ℕ} (lays : Lays row) where
  in_stands : (p : Part) {a : ℕ} → In a p → Stands (row p) a
  in_stands (cell k) {a} e = subst (λ r. Stands r a) (sym (lays.one k)) (one_stands e)
  in_stands (beside p q) h = joined_stands (lays.side p q) (⊎_elim (λ i. inl (in_stands p i)) (λ i. inr (in_stands q i)) h)
  in_stands (stacked p q) h = joined_stands (lays.pile p q) (⊎_elim (λ i. inl (in_stands p i)) (λ i. inr (in_stands q i)) h)

  stands_in : (p : Part) {a : ℕ} → Stands (row p) a → In a p
  stands_in (cell k) {a} s = stands_one (subst (λ r. Stands r a) (lays.one k) s)
  stands_in (beside p q) s = ⊎_elim (λ i. inl (stands_in p i)) (λ i. inr (stands_in q i)) (joined_either (lays.side p q) s)
  stands_in (stacked p q) s = ⊎_elim (λ i. inl (stands_in p i)) (λ i. inr (stands_in q i)) (joined_either (lays.pile p q) s)

  -- what comes earlier in the row of a part inside comes earlier in the whole row
  earlier_inside : {s t : Part} {a b : ℕ} → PartOf s t → Earlier (row s) a b → Earlier (row t) a b
  earlier_inside itself e = e
  earlier_inside (beside_earlier {p} {q} o) e = joined_earlier (lays.side p q) (inl (earlier_inside o e))
  earlier_inside (beside_later {p} {q} o) e = joined_earlier (lays.side p q) (inr (earlier_inside o e))
  earlier_inside (stacked_earlier {p} {q} o) e = joined_earlier (lays.pile p q) (inl (earlier_inside o e))
  earlier_inside (stacked_later {p} {q} o) e = joined_earlier (lays.pile p q) (inr (earlier_inside o e))

  separate_single : (p : Part) → Separate p → Single (row p)
  separate_single (cell k) _ = subst Single (sym (lays.one k)) (λ i j p q _. omega arith)
  separate_single (beside p q) s = joined_single (lays.side p q) (separate_single p s.0) (separate_single q s.1) (λ a x y. s.2 a (stands_in p x) (stands_in q y))
  separate_single (stacked p q) s = joined_single (lays.pile p q) (separate_single p s.0) (separate_single q s.1) (λ a x y. s.2 a (stands_in p x) (stands_in q y))

  single_separate : (p : Part) → Single (row p) → Separate p
  single_separate (cell k) _ = tt
  single_separate (beside p q) s =
      let h = joined_apart (lays.side p q) s in (single_separate p h.0, single_separate q h.1, λ a x y. h.2 a (in_stands p x) (in_stands q y))
  single_separate (stacked p q) s =
      let h = joined_apart (lays.pile p q) s in (single_separate p h.0, single_separate q h.1, λ a x y. h.2 a (in_stands p x) (in_stands q y))

pub upper_length : (p : Part) → length (upper p) ≡ length (leaves p)
upper_length (cell k) = refl
upper_length (beside p q) = let h = upper_length p in let k = upper_length q in let l = joined_length (upper_lays.side p q) in let m = joined_length (leaves_lays.side p q) in omega arith
upper_length (stacked p q) = let h = upper_length p in let k = upper_length q in let l = joined_length (upper_lays.pile p q) in let m = joined_length (leaves_lays.pile p q) in omega arith

-- both rows have each cell once
pub upper_row : (n : ℕ) (p : Part) → Row n (leaves p) → Row n (upper p)
upper_row n p row = record {
  long = upper_length p ∙ row.long;
  whole = single_once n (upper p)
      (λ a s. row_low n (leaves p) row a (in_stands leaves_lays p (stands_in upper_lays p s)))
      (separate_single upper_lays p (single_separate leaves_lays p (row_single n (leaves p) row)));
}

-- What a part tells

wider : {s t : Part} {a b : ℕ} {r : Relation} → ((u : Part) → PartOf u s → PartOf u t) → Tells s a b r → Tells t a b r
wider more (left o i j) = left (more _ o) i j
wider more (right o i j) = right (more _ o) i j
wider more (above o i j) = above (more _ o) i j
wider more (below o i j) = below (more _ o) i j

-- a part tells how any two different cells of it lie
some_tells : (p : Part) {a b : ℕ} → In a p → In b p → (a ≡ b → ⊥) → (r : Relation) × Tells p a b r
some_tells (cell k) e f differ = absurd (differ (e ∙ sym f))
some_tells (beside p q) i j differ =
    ⊎_elim
    (λ x.
    ⊎_elim (λ y. let h = some_tells p x y differ in (h.0, wider (λ _ o. beside_earlier o) h.1)) (λ y. (_, left itself x y)) j)
    (λ x.
    ⊎_elim (λ y. (_, right itself y x)) (λ y. let h = some_tells q x y differ in (h.0, wider (λ _ o. beside_later o) h.1)) j)
    i
some_tells (stacked p q) i j differ =
    ⊎_elim
    (λ x.
    ⊎_elim (λ y. let h = some_tells p x y differ in (h.0, wider (λ _ o. stacked_earlier o) h.1)) (λ y. (_, below itself x y)) j)
    (λ x.
    ⊎_elim (λ y. (_, above itself y x)) (λ y. let h = some_tells q x y differ in (h.0, wider (λ _ o. stacked_later o) h.1)) j)
    i

-- in a row of two parts one after the other, a cell of the first comes earlier than a cell of the second
across : {row : Part → List ℕ} → Lays row → (p q : Part) {a b : ℕ} → In a p → In b q → Earlier (row p ++ row q) a b
across {row} lays p q i j = earlier_across (row p) (row q) (in_stands lays p i) (in_stands lays q j)

pub tells_told : {t : Part} {a b : ℕ} {r : Relation} → Tells t a b r → Told (upper t) (leaves t) a b r
tells_told (left {p} {q} o i j) = rows.left (earlier_inside upper_lays o (across upper_lays p q i j)) (earlier_inside leaves_lays o (across leaves_lays p q i j))
tells_told (right {p} {q} o i j) = rows.right (earlier_inside upper_lays o (across upper_lays p q i j)) (earlier_inside leaves_lays o (across leaves_lays p q i j))
tells_told (above {p} {q} o i j) = rows.above (earlier_inside upper_lays o (across upper_lays q p j i)) (earlier_inside leaves_lays o (across leaves_lays p q i j))
tells_told (below {p} {q} o i j) = rows.below (earlier_inside upper_lays o (across upper_lays q p j i)) (earlier_inside leaves_lays o (across leaves_lays p q i j))

-- two rows without repetition tell one relation of two cells
module _ {first second : List ℕ} (one : Single first) (two : Single second) where
  pub told_one : {a b : ℕ} {r s : Relation} → Told first second a b r → Told first second a b s → r ≡ s
  told_one (rows.left x y) (rows.left u v) = refl
  told_one (rows.left x y) (rows.right u v) = absurd (never_both one x u)
  told_one (rows.left x y) (rows.above u v) = absurd (never_both two y v)
  told_one (rows.left x y) (rows.below u v) = absurd (never_both one x u)
  told_one (rows.right x y) (rows.left u v) = absurd (never_both one x u)
  told_one (rows.right x y) (rows.right u v) = refl
  told_one (rows.right x y) (rows.above u v) = absurd (never_both one x u)
  told_one (rows.right x y) (rows.below u v) = absurd (never_both two y v)
  told_one (rows.above x y) (rows.left u v) = absurd (never_both two y v)
  told_one (rows.above x y) (rows.right u v) = absurd (never_both one x u)
  told_one (rows.above x y) (rows.above u v) = refl
  told_one (rows.above x y) (rows.below u v) = absurd (never_both one x u)
  told_one (rows.below x y) (rows.left u v) = absurd (never_both one x u)
  told_one (rows.below x y) (rows.right u v) = absurd (never_both two y v)
  told_one (rows.below x y) (rows.above u v) = absurd (never_both one x u)
  told_one (rows.below x y) (rows.below u v) = refl

  -- and only of two that stand in them, and are different
  told_places : {a b : ℕ} {r : Relation} → Told first second a b r → Stands first a × Stands first b × (a ≡ b → ⊥)
  told_places (rows.left x y) = earlier_places one x
  told_places (rows.right x y) = let h = earlier_places one x in (h.1, h.0, λ e. h.2 (sym e))
  told_places (rows.above x y) = earlier_places one x
  told_places (rows.below x y) = let h = earlier_places one x in (h.1, h.0, λ e. h.2 (sym e))

-- the order of a part's two rows is the order that the part tells
pub told_tells : (n : ℕ) (p : Part) (o : Order) → Row n (leaves p) → Rows n (upper p) (leaves p) o → (a b : ℕ) → Apart o a b → Tells p a b (o.rel a b)
told_tells n p o row given a b d =
    let count = given.count in
    let inside : (x : ℕ) → x < o.count → In x p = λ x h. stands_in leaves_lays p (row_has n (leaves p) row x (omega arith)) in
    let some = some_tells p (inside a d.a_in) (inside b d.b_in) d.differ in
    let one = row_single n (upper p) (upper_row n p row) in
    subst (Tells p a b) (told_one one (row_single n (leaves p) row) (tells_told some.1) (given.each a b d)) some.1

-- what the part of an expression tells holds in the order
pub tells_holds : (n : ℕ) (expr : List ℕ) (o : Order) (e : Expression n expr o) {a b : ℕ} {r : Relation} → Tells e.part a b r → Apart o a b × (o.rel a b ≡ r)
tells_holds n expr o e {a} {b} t =
    let row = upper_row n e.part e.cells in
    let one = row_single n (upper e.part) row in
    let two = row_single n (leaves e.part) e.cells in
    let count = e.count in
    let places = told_places one two (tells_told t) in
    let a_in = row_low n (upper e.part) row a places.0 in
    let b_in = row_low n (upper e.part) row b places.1 in
    let apart : Apart o a b = record { a_in = omega arith; b_in = omega arith; differ = places.2 } in
    (apart, told_one one two (tells_told (e.each a b apart)) (tells_told t))

-- lawful rows are never refused
pub rows_lawful : {n : ℕ} {first second : List ℕ} {f : SheetFault} → Countable n → Row n first → Row n second → NoRows n first second f → ⊥
rows_lawful c one two (rows.bad_count out) = out c
rows_lawful c one two (rows.first_length _ long) = long one.long
rows_lawful c one two (rows.second_length _ _ long) = long two.long
rows_lawful c one two (rows.first_breaks {i} _ _ _ b) = one.whole i b.here
rows_lawful c one two (rows.second_breaks {i} _ _ _ b) = two.whole i b.here

-- the rows of the one part that is left, as they are lent to the sequence-pair
module _ (n : ℕ) (expr : List ℕ) (w : Waiting) (whole : Whole n expr w) (first second : List ℕ) (lent_first : first ≡ w.first.items) (lent_second : second ≡ w.second.items) where
  first_is : first ≡ upper whole.part
  first_is = lent_first ∙ whole.first

  second_is : second ≡ leaves whole.part
  second_is = lent_second ∙ whole.second

  pub whole_first : Row n first
  whole_first = subst (Row n) (sym first_is) (upper_row n whole.part whole.row)

  pub whole_second : Row n second
  whole_second = subst (Row n) (sym second_is) whole.row

  pub whole_expression : (o : Order) → Rows n first second o → Expression n expr o
  whole_expression o r = record {
    count = r.count;
    part = whole.part;
    read = whole.read;
    cells = whole.row;
    each = told_tells n whole.part o whole.row (subst (λ x. Rows n x (leaves whole.part) o) first_is (subst (λ y. Rows n first y o) second_is r));
  }

  -- which are never refused
  pub whole_lawful : {f : SheetFault} → Countable n → NoRows n first second f → ⊥
  whole_lawful c = rows_lawful c whole_first whole_second
