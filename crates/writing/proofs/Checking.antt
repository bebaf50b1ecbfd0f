-- One turn of a loop that checks: what is left to check tells what the whole does.
use Rattle.std.proofs.Common.{◌≡◌, ℕ, ◌+◌, ◌<◌, ◌≤◌, min, Bool, true, false, List, [], ◌∷◌, map, length, get_or, take, drop, IsErrAnd, Ok, Err, sym, refl, ap, ◌∙◌, ⊎_elim, zero-add, arith}
use Rattle.std.proofs.lemmas.List.{at_drop_more, at_drop_all}
use Rattle.std.proofs.lemmas.List.FromFn.{length-enumerate_from, get_or-enumerate_from}
use Rattle.std.proofs.lemmas.Slice.Zip.{length-zip, get_or-zip}
use Rattle.std.proofs.lemmas.Bool.{cases_lt}
use Rattle.std.specs.List.{zip, enumerate_from}
use Rattle.refusal.specs.declared.fault.FieldFault.{FieldFault}
use Rattle.refusal.specs.declared.fault.SheetFault.{SheetFault}
use Rattle.refusal.specs.declared.fault.SheetFault.TheVariants as sheet
use Rattle.refusal.specs.declared.fault.Side.TheVariants.{Width, Height}
use Rattle.book.proofs.Exits.{exit_at}
use Rattle.formats.specs.declared.fields.Entry.{Entry}
use Rattle.formats.specs.Writing.{Check, both, pass_field, list_check, entries_check, size_check, sizes_check}

pub both_ok : (first next : Check) → first ≡ Ok tt → both first next ≡ next
both_ok first next e = ap (λ (r : Check). both r next) e

pub both_err : (first next : Check) (f : SheetFault) → first ≡ Err f → both first next ≡ Err f
both_err first next f e = ap (λ (r : Check). both r next) e

pub passed : (ok : Bool) (f : FieldFault) → ok ≡ true → pass_field ok f ≡ Ok tt
passed ok f e = ap (λ (b : Bool). pass_field b f) e

pub refused : (ok : Bool) (f : FieldFault) → ok ≡ false → pass_field ok f ≡ Err (sheet.Field f)
refused ok f e = ap (λ (b : Bool). pass_field b f) e

-- the fault of a part, handed on by a `?`, is the fault of the whole
pub exit_tells : (whole r : Check) (f : SheetFault) → IsErrAnd r (λ e. e ≡ f) → whole ≡ Err f → r ≡ whole
exit_tells whole r f out e = exit_at (λ (o : Check). o ≡ whole) r f out (sym e)

-- what the numbers from index k on tell
abbrev pub list_from : (List ℕ → ℕ → Bool) → (ℕ → FieldFault) → List ℕ → ℕ → Check
list_from rule told xs k = list_check rule told (take k xs) (drop k xs)

-- what the entries from index k on tell
abbrev pub entries_from : ℕ → List Entry → ℕ → Check
entries_from n xs k = entries_check n (take k xs) (drop k xs)

-- what the lengths of the cells from k on tell
abbrev pub sizes_from : {V : Type 0} → (V → List ℕ) → List V → List V → ℕ → Check
sizes_from numbers ws hs k = sizes_check k (map numbers (drop k ws)) (map numbers (drop k hs))

-- where no heights are left, nothing is left to check
no_heights : (cell : ℕ) (us : List (List ℕ)) → sizes_check cell us [] ≡ Ok tt
no_heights cell [] = refl
no_heights cell (u ∷ us) = refl

-- these are the width and the height of the cell, which comes after i others
pub record AtCell {V : Type 0} (ws hs : List V) (i cell : ℕ) (w h : V) : Type 0 where
  pub is : cell ≡ i
  pub in_ws : cell < length ws
  pub in_hs : cell < length hs
  pub wide : w ≡ get_or ws cell w
  pub high : h ≡ get_or hs cell h

-- the pairs of width and height, counted
pub at_cell : {V : Type 0} (ws hs : List V) (i cell : ℕ) (w h : V) → i < length (enumerate_from 0 (zip ws hs)) → (cell, (w, h)) ≡ get_or (enumerate_from 0 (zip ws hs)) i (cell, (w, h)) → AtCell ws hs i cell w h
at_cell {V} ws hs i cell w h inside at =
    let long : i < length (zip ws hs) = omega (arith, length-enumerate_from 0 (zip ws hs)) in
    let in_ws : i < length ws = omega (arith, length-zip ws hs) in
    let in_hs : i < length hs = omega (arith, length-zip ws hs) in
    let pair = get_or-zip ws hs i (w, h) in_ws in_hs in
    let both = at ∙ get_or-enumerate_from 0 (zip ws hs) i (cell, (w, h)) long in
    let is : cell ≡ i = ap (λ (p : ℕ × (V × V)). p.0) both ∙ zero-add i in
    record {
      is = is;
      in_ws = omega (arith, is);
      in_hs = omega (arith, is);
      wide = ap (λ (p : ℕ × (V × V)). p.1.0) both ∙ ap (λ (p : V × V). p.0) pair ∙ ap (λ (k : ℕ). get_or ws k w) (sym is);
      high = ap (λ (p : ℕ × (V × V)). p.1.1) both ∙ ap (λ (p : V × V). p.1) pair ∙ ap (λ (k : ℕ). get_or hs k h) (sym is);
    }

module _ {V : Type 0} (numbers : V → List ℕ) (ws hs : List V) (i : ℕ) (so_far : sizes_from numbers ws hs 0 ≡ sizes_from numbers ws hs i) where
  module _ (cell : ℕ) (w h : V) (here : AtCell ws hs i cell w h) where
    abbrev wide : Check
    wide = size_check (numbers w) cell Width

    abbrev high : Check
    high = size_check (numbers h) cell Height

    abbrev later : Check
    later = sizes_from numbers ws hs (cell + 1)

    -- the two lengths of the cell, then those of the cells behind it
    sizes_turn : sizes_from numbers ws hs 0 ≡ both wide (both high later)
    sizes_turn =
        so_far
        ∙ ap (sizes_from numbers ws hs) (sym here.is)
        ∙ at_drop_more (λ (us : List V). sizes_check cell (map numbers us) (map numbers (drop cell hs))) ws cell w here.in_ws
        ∙ at_drop_more (λ (vs : List V). sizes_check cell (map numbers (get_or ws cell w ∷ drop (cell + 1) ws)) (map numbers vs)) hs cell h here.in_hs
        ∙ ap (λ (v : V). both (size_check (numbers v) cell Width) (both (size_check (numbers (get_or hs cell h)) cell Height) later)) (sym here.wide)
        ∙ ap (λ (v : V). both wide (both (size_check (numbers v) cell Height) later)) (sym here.high)

    pub width_fails : (f : SheetFault) → Err f ≡ wide → sizes_from numbers ws hs 0 ≡ Err f
    width_fails f e = sizes_turn ∙ both_err wide _ f (sym e)

    pub height_fails : Ok tt ≡ wide → (f : SheetFault) → Err f ≡ high → sizes_from numbers ws hs 0 ≡ Err f
    height_fails passes f e = sizes_turn ∙ both_ok wide _ (sym passes) ∙ both_err high later f (sym e)

    pub sizes_more : Ok tt ≡ wide → Ok tt ≡ high → sizes_from numbers ws hs 0 ≡ sizes_from numbers ws hs (i + 1)
    sizes_more passes e = sizes_turn ∙ both_ok wide _ (sym passes) ∙ both_ok high later (sym e) ∙ ap (λ (k : ℕ). sizes_from numbers ws hs (k + 1)) here.is

  pub sizes_done : i ≡ length (enumerate_from 0 (zip ws hs)) → sizes_from numbers ws hs 0 ≡ Ok tt
  sizes_done all =
      let past : min (length ws) (length hs) ≤ i = omega (arith, length-enumerate_from 0 (zip ws hs), length-zip ws hs) in
      so_far
      ∙ ⊎_elim
      (λ (w : i < length ws). at_drop_all (λ (vs : List V). sizes_check i (map numbers (drop i ws)) (map numbers vs)) hs i (omega arith) ∙ no_heights i (map numbers (drop i ws)))
      (λ w. at_drop_all (λ (us : List V). sizes_check i (map numbers us) (map numbers (drop i hs))) ws i w)
      (cases_lt i (length ws))
