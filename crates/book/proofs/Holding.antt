-- The rows of waiting parts: what one cell more, a side join and a stack make of them.
use Rattle.std.proofs.Common.{◌≡◌, ℕ, ◌-◌, ◌≤◌, Bool, eqb, List, [], ◌∷◌, ◌++◌, length, get_or, take, drop, Decides, sym, refl, ap, ◌∙◌, subst, append_assoc, append-nil, arith, length-append, length-drop}
use borrow.Rule.Slice.PartMut.{mid_of, put_mid}
use Rattle.std.proofs.lemmas.List.{length_push, get_or_push, get_or_append_left, take_at, take_all, drop_at, drop_all}
use Rattle.std.specs.List.{IsAnyAnswer}
use Rattle.arrayvec.specs.ArrayVec.{ArrayVec, with_items}
use Rattle.arrayvec.proofs.ArrayVecLemmas.{items-with_items}
use Rattle.book.specs.declared.slicing.Waiting.{Waiting}
use Rattle.book.specs.Order.{most_cells}
use Rattle.book.specs.Rows.{Breaks}
use Rattle.book.specs.Slicing.{Part, cell, beside, stacked, leaves, Read}
use Rattle.book.specs.Waiting.{upper, in_row, begins, Holds, Roomy, Stackable, Once}
use Rattle.book.proofs.Standing.{Stands, found_stands, once_at_most}
use Rattle.book.proofs.Trees.{upper_length}

some_leaf : (p : Part) → 1 ≤ length (leaves p)
some_leaf (cell k) = omega arith
some_leaf (beside p q) = let h = some_leaf p in let l = length-append (leaves p) (leaves q) in omega arith
some_leaf (stacked p q) = let h = some_leaf p in let l = length-append (leaves p) (leaves q) in omega arith

-- a part has a cell at least
pub parts_at_most_cells : (ps : List Part) → length ps ≤ length (in_row leaves ps)
parts_at_most_cells [] = omega arith
parts_at_most_cells (p ∷ ps) = let h = some_leaf p in let k = parts_at_most_cells ps in let l = length-append (in_row leaves ps) (leaves p) in omega arith

rows_length : (ps : List Part) → length (in_row upper ps) ≡ length (in_row leaves ps)
rows_length [] = refl
rows_length (p ∷ ps) =
    let h = upper_length p in
    let k = rows_length ps in
    let l = length-append (in_row upper ps) (upper p) in
    let m = length-append (in_row leaves ps) (leaves p) in
    omega arith

begins_length : (ps : List Part) → length (begins ps) ≡ length ps
begins_length [] = refl
begins_length (p ∷ ps) = let h = begins_length ps in let l = length_push (begins ps) (length (in_row leaves ps)) in omega arith

-- each waiting part has a beginning
pub parts_begin : (ps : List Part) (w : Waiting) → Holds ps w → length w.starts.items ≡ length ps
parts_begin ps w h = ap length h.starts ∙ begins_length ps

-- a write from place a to the end
put_end : (a : ℕ) (xs ys : List ℕ) → a ≤ length xs → put_mid a (length xs - a) xs ys ≡ take a xs ++ ys
put_end a xs ys fit =
    let l = length-drop a xs in
    ap (λ r. take a xs ++ (ys ++ r)) (drop_all (length xs - a) (drop a xs) (omega arith)) ∙ ap (λ r. take a xs ++ r) (append-nil ys)

module _ (p q : Part) (ps : List Part) (w : Waiting) (h : Holds (q ∷ p ∷ ps) w) where
  abbrev starts : List ℕ
  starts = w.starts.items

  abbrev front : List ℕ
  front = begins ps ++ (length (in_row leaves ps) ∷ [])

  -- where the later of the two begins
  abbrev last : ℕ
  last = length (in_row leaves (p ∷ ps))

  front_length : length front ≡ length starts - 1
  front_length = let l = length_push front last in let n = ap length h.starts in omega arith

  one_start_less : take (length starts - 1) starts ≡ front
  one_start_less = ap (take (length starts - 1)) h.starts ∙ take_at front (last ∷ []) (length starts - 1) front_length

  pub join_holds : (popped : ArrayVec ℕ) → popped.items ≡ take (length starts - 1) starts → Holds (beside p q ∷ ps) (record { starts = popped; first = w.first; second = w.second })
  join_holds popped rest = record {
    starts = rest ∙ one_start_less;
    first = h.first ∙ append_assoc (in_row upper ps) (upper p) (upper q);
    second = h.second ∙ append_assoc (in_row leaves ps) (leaves p) (leaves q);
  }

  later_starts : get_or starts (length starts - 1) 0 ≡ last
  later_starts = ap (λ xs. get_or xs (length starts - 1) 0) h.starts ∙ get_or_push front last 0 (length starts - 1) front_length

  earlier_starts : get_or starts (length starts - 2) 0 ≡ length (in_row leaves ps)
  earlier_starts =
      let n = ap length h.starts in
      let l = begins_length ps in
      let f = front_length in
      let m = length_push (begins ps) (length (in_row leaves ps)) in
      ap (λ xs. get_or xs (length starts - 2) 0) h.starts
      ∙ get_or_append_left front (last ∷ []) 0 (length starts - 2) (omega arith)
      ∙ get_or_push (begins ps) (length (in_row leaves ps)) 0 (length starts - 2) (omega arith)

  pub stack_bounds : Stackable w
  stack_bounds =
      let a = earlier_starts in
      let b = later_starts in
      let f = front_length in
      let same = rows_length (q ∷ p ∷ ps) in
      let row = ap length h.first in
      let k = length_push (begins ps) (length (in_row leaves ps)) in
      let l = length-append (in_row leaves ps) (leaves p) in
      let m = length-append (in_row leaves (p ∷ ps)) (leaves q) in
      record { two = omega arith; ascend = omega arith; inside = omega arith }

  module _ (earlier later : ℕ) (slice moved : List ℕ) (is_earlier : earlier ≡ get_or starts (length starts - 2) 0) (is_later : later ≡ get_or starts (length starts - 1) 0)
      (is_slice : slice ≡ w.first.items)
      (turned : moved ≡ drop (later - earlier) (mid_of earlier (length slice - earlier) slice) ++ take (later - earlier) (mid_of earlier (length slice - earlier) slice))
    where
      low : earlier ≡ length (in_row upper ps)
      low = let same = rows_length ps in let a = earlier_starts in omega arith

      split : slice ≡ in_row upper ps ++ (upper p ++ upper q)
      split = is_slice ∙ h.first ∙ append_assoc (in_row upper ps) (upper p) (upper q)

      -- the two parts in the first row
      both : mid_of earlier (length slice - earlier) slice ≡ upper p ++ upper q
      both =
          let n = ap length split in
          let l = length-append (in_row upper ps) (upper p ++ upper q) in
          let e = low in
          ap (λ xs. take (length slice - earlier) (drop earlier xs)) split
          ∙ ap (take (length slice - earlier)) (drop_at (in_row upper ps) (upper p ++ upper q) earlier (sym low))
          ∙ take_all (length slice - earlier) (upper p ++ upper q) (omega arith)

      moved_is : moved ≡ upper q ++ upper p
      moved_is =
          let b = later_starts in
          let l = length-append (in_row leaves ps) (leaves p) in
          let same = rows_length ps in
          let same_p = upper_length p in
          let e = low in
          let mid : length (upper p) ≡ later - earlier = omega arith in
          let d = drop_at (upper p) (upper q) (later - earlier) mid in
          let t = take_at (upper p) (upper q) (later - earlier) mid in
          turned ∙ ap (λ xs. drop (later - earlier) xs ++ take (later - earlier) xs) both ∙ cc

      written : put_mid earlier (length slice - earlier) slice moved ≡ in_row upper (stacked p q ∷ ps)
      written =
          let n = ap length split in
          let l = length-append (in_row upper ps) (upper p ++ upper q) in
          let e = low in
          put_end earlier slice moved (omega arith)
          ∙ ap (λ xs. take earlier xs ++ moved) split
          ∙ ap (λ xs. xs ++ moved) (take_at (in_row upper ps) (upper p ++ upper q) earlier (sym low))
          ∙ ap (λ xs. in_row upper ps ++ xs) moved_is

      pub stack_holds : (popped : ArrayVec ℕ) → popped.items ≡ take (length starts - 1) starts
          → Holds (stacked p q ∷ ps) (record { starts = popped; first = with_items w.first (put_mid earlier (length slice - earlier) slice moved); second = w.second })
      stack_holds popped rest =
          let n = ap length written in
          let m = ap length h.first in
          let k = rows_length (stacked p q ∷ ps) in
          let same = rows_length (q ∷ p ∷ ps) in
          let regroup = ap length (append_assoc (in_row leaves ps) (leaves p) (leaves q)) in
          record {
            starts = rest ∙ one_start_less;
            first = items-with_items w.first (put_mid earlier (length slice - earlier) slice moved) (omega arith) ∙ written;
            second = h.second ∙ append_assoc (in_row leaves ps) (leaves p) (leaves q);
          }

-- two parts or more can be stacked
pub two_stackable : (ps : List Part) (w : Waiting) → Holds ps w → 2 ≤ length w.starts.items → Stackable w
two_stackable [] w h two = absurd (let n = parts_begin [] w h in omega arith)
two_stackable (p ∷ []) w h two = absurd (let n = parts_begin (p ∷ []) w h in omega arith)
two_stackable (q ∷ p ∷ ps) w h two = stack_bounds p q ps w h

-- where one more cell keeps each in one place only, there is room for it
pub room_for_one : (n k : ℕ) (ps : List Part) (w : Waiting) → n ≤ most_cells → Holds ps w → Once n (cell k ∷ ps) → Roomy w
room_for_one n k ps w few h once =
    let at_most = once_at_most n (in_row leaves (cell k ∷ ps)) once in
    let pushed = length_push (in_row leaves ps) k in
    let parts = parts_at_most_cells ps in
    let begun = begins_length ps in
    let same = rows_length ps in
    let starts = ap length h.starts in
    let first = ap length h.first in
    let second = ap length h.second in
    record { starts = omega arith; first = omega arith; second = omega arith }

-- what a search of the second row finds
pub found_waits : (k : ℕ) (ps : List Part) (w : Waiting) (row : List ℕ) (found : Bool) → Holds ps w → row ≡ w.second.items → IsAnyAnswer (λ y t. eqb y k ≡ t) row found → Decides found (Stands (in_row leaves ps) k)
found_waits k ps w row found h is some = subst (λ xs. Decides found (Stands xs k)) (is ∙ h.second) (found_stands k row found some)

-- a join reads the last two parts as one
module _ (n k : ℕ) (join : Part → Part → Part) (lays : (p q : Part) → leaves (join p q) ≡ leaves p ++ leaves q)
    (reads : (p q : Part) (ps : List Part) → Read n k (q ∷ p ∷ ps) (join p q ∷ ps)) (was now : Waiting) (two : 2 ≤ length was.starts.items)
    (held : (p q : Part) (ps : List Part) → Holds (q ∷ p ∷ ps) was → Holds (join p q ∷ ps) now)
  where
    pub join_reads : (ps : List Part) → Holds ps was → Once n ps → (qs : List Part) × Read n k ps qs × Holds qs now × Once n qs
    join_reads [] h once = absurd (let n = parts_begin [] was h in omega arith)
    join_reads (p ∷ []) h once = absurd (let n = parts_begin (p ∷ []) was h in omega arith)
    join_reads (q ∷ p ∷ ps) h once =
        let same : in_row leaves (q ∷ p ∷ ps) ≡ in_row leaves (join p q ∷ ps) = append_assoc (in_row leaves ps) (leaves p) (leaves q) ∙ ap (λ r. in_row leaves ps ++ r) (sym (lays p q)) in
        (join p q ∷ ps, reads p q ps, held p q ps h, subst (λ r. (i : ℕ) → Breaks n r i → ⊥) same once)
