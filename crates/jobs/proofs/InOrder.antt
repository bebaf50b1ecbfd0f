-- A lawful job's entries are done or unplaceable, and its placing is refused only for a pair or a centred cell.
use Rattle.std.proofs.Common.{◌≡◌, ℕ, ◌+◌, ◌<◌, Bool, true, false, cond, not, ◌&&◌, eqb, ltb, List, [], ◌∷◌, ◌++◌, map, length, Some, None, Ok, Err, vec_items, Option, Result, sym, refl, ◌∙◌, subst, arith, Bor}
use lib.ListN.{length-map}
use Rattle.std.specs.List.{AllByRecursion as All}
use Rattle.std.proofs.ByRecursion.{All-get_or}
use Rattle.std.proofs.lemmas.Bool.{and_parts, not-true}
use Rattle.std.proofs.lemmas.Bool.Decides.{nat_tests}
use Rattle.refusal.specs.declared.fault.FieldFault.TheVariants as fault
use Rattle.refusal.specs.declared.fault.SheetFault.{SheetFault}
use Rattle.refusal.specs.declared.fault.Side.TheVariants.{Width, Height}
use Rattle.book.specs.Order.{Order}
use Rattle.length.specs.Kind.{Kind}
use Rattle.length.specs.Kinds.{EachLawful}
use Rattle.placement.specs.Meaning.{Meaning}
use Rattle.placing.specs.Sizes.{widths_length, heights_length, work_length, x_length, y_length, no_width, no_height, pair_differs, odd_centre}
use Rattle.placing.specs.Placing.{five, Misfitting, Placing, misfitting, unlawful}
use Rattle.sheet.specs.declared.steps.Step.{Step}
use Rattle.sheet.specs.declared.steps.Step.TheVariants as step
use Rattle.sheet.specs.declared.steps.Answer.{Answer}
use Rattle.sheet.specs.declared.steps.Answer.TheVariants as answer
use Rattle.sheet.specs.Sheets.{SameSheet}
use Rattle.sheet.specs.Edits.{Edit, swap, pair, centre, release, fresh, after, checked, Edited, unfit, unplaceable, done}
use Rattle.sheet.specs.Runs.{edit_step, told, Blank, PlacedAnew, placed, unplaced, Came, an_edit, a_placing, Ran, end, next, WholeRun}
use Rattle.formats.specs.declared.fields.Entry.{Entry}
use Rattle.formats.specs.declared.job.Job.{Job}
use Rattle.formats.specs.Choices.{exchanges}
use Rattle.formats.specs.Rules.{is_size_number, names, follows, entry_follows_all}
use Rattle.formats.specs.Files.{JobFields}
use Rattle.formats.specs.Held.{job_fields}
use Rattle.formats.specs.Writing.{all, pass_field, counts_check, lists_check, order_check, sizes_check, entries_check, job_check}
use Rattle.formats.proofs.Checks.{never, both_parts, passed}
use Rattle.formats.proofs.FewEntries.{fitting, follows_both}
use Rattle.formats.proofs.Small.{count_few}
use Rattle.roundtrip.proofs.JobLists.{ordered}
use Rattle.jobs.specs.Steps.{step_of_entry, Asks}
use Rattle.jobs.specs.Answers as came
use Rattle.jobs.specs.Answers.{EntryCame, PlacingCame, InOrder}
use Rattle.jobs.proofs.Lawful.{job_checked}

-- the edit that an entry asks for, by whether its two cells are one
abbrev edit_by : Bool → Entry → Edit
edit_by t e = cond t (centre e.first) (pair e.first e.second)

abbrev entry_edit : Entry → Edit
entry_edit e = edit_by (eqb e.first e.second) e

-- the edit that a step makes
abbrev edit_of : {V : Type 0} → Step V → Option Edit
edit_of (step.Swap a b) = Some (swap a b)
edit_of (step.Pair a b) = Some (pair a b)
edit_of (step.Centre a) = Some (centre a)
edit_of (step.Release a) = Some (release a)
edit_of (step.Place w h) = None

edit_of_step : (V : Type 0) (e : Edit) → edit_of {V = V} (edit_step e) ≡ Some e
edit_of_step V (swap a b) = refl
edit_of_step V (pair a b) = refl
edit_of_step V (centre a) = refl
edit_of_step V (release a) = refl

edit_of_either : (V : Type 0) (t : Bool) (e : Entry) → edit_of {V = V} (cond t (step.Centre e.first) (step.Pair e.first e.second)) ≡ Some (edit_by t e)
edit_of_either V true e = refl
edit_of_either V false e = refl

-- a sheet of n cells on which any entry that may follow these has free cells
record Open (n : ℕ) (before : List Entry) (m : Meaning) : Type 0 where
  count : m.order.count ≡ n
  free : (e : Entry) → entry_follows_all before e ≡ true → e.first < n → e.second < n → (m.mate e.first ≡ None) × (m.mate e.second ≡ None)

fresh_open : {m : Meaning} (o : Order) (n : ℕ) → o.count ≡ n → SameSheet (fresh o) m → Open n [] m
fresh_open o n counted same = record {
  count = same.order.count ∙ counted;
  free = λ e _ a b. (same.mate e.first (omega arith), same.mate e.second (omega arith));
}

open_same : {n : ℕ} {before : List Entry} {m p : Meaning} → SameSheet m p → Open n before m → Open n before p
open_same {n} {before} {m} {p} same o = record {
  count = same.order.count ∙ o.count;
  free = λ e f a b.
      let r = o.free e f a b in
      let c = o.count in
      (same.mate e.first (omega arith) ∙ r.0, same.mate e.second (omega arith) ∙ r.1);
}

open_more : {n : ℕ} {before : List Entry} {m : Meaning} (e : Entry) → Open n before m → Open n (before ++ (e ∷ [])) m
open_more {before = before} e o = record { count = o.count; free = λ d f. o.free d (follows_both before e d f).0 }

-- the edit of an entry changes the mate of no cell that the entry lacks
edit_lacks : (m : Meaning) (e : Entry) (t : Bool) (c : ℕ) → names e c ≡ false → (after m (edit_by t e)).mate c ≡ m.mate c
edit_lacks m e true c lacks = let a : eqb c e.first ≡ false = grind (arith, nat_tests) in rw a
edit_lacks m e false c lacks =
    let a : eqb c e.first ≡ false = grind (arith, nat_tests) in
    let b : eqb c e.second ≡ false = grind (arith, nat_tests) in
    rw (a, b)

-- and no number of cells
edit_count : (m : Meaning) (e : Entry) (t : Bool) → (after m (edit_by t e)).order.count ≡ m.order.count
edit_count m e true = refl
edit_count m e false = refl

follows_lacks : (e d : Entry) → follows e d ≡ true → (names e d.first ≡ false) × (names e d.second ≡ false)
follows_lacks e d f =
    let p = and_parts (ltb e.first d.first && not (names e d.first)) (not (names e d.second)) f in
    let q = and_parts (ltb e.first d.first) (not (names e d.first)) p.0 in
    (not-true (names e d.first) q.1, not-true (names e d.second) p.1)

open_after : {n : ℕ} {before : List Entry} {m : Meaning} (e : Entry) → Open n before m → Open n (before ++ (e ∷ [])) (after m (entry_edit e))
open_after {n} {before} {m} e o =
    let t = eqb e.first e.second in
    record {
      count = edit_count m e t ∙ o.count;
      free = λ d f a b.
          let both = follows_both before e d f in
          let away = follows_lacks e d both.1 in
          let r = o.free d both.0 a b in
          (edit_lacks m e t d.first away.0 ∙ r.0, edit_lacks m e t d.second away.1 ∙ r.1);
    }

-- an entry that fits passes the checks of its edit
edit_passes : (m : Meaning) (e : Entry) (t : Bool) → eqb e.first e.second ≡ t → e.first < m.order.count → e.second < m.order.count → m.mate e.first ≡ None → m.mate e.second ≡ None → checked m (edit_by t e) ≡ Ok tt
edit_passes m e true same a b free_a free_b =
    let in-a : ltb e.first m.order.count ≡ true = grind (arith, nat_tests) in
    rw (in-a, free_a)
edit_passes m e false same a b free_a free_b =
    let in-a : ltb e.first m.order.count ≡ true = grind (arith, nat_tests) in
    let in_b : ltb e.second m.order.count ≡ true = grind (arith, nat_tests) in
    rw (in-a, in_b, same, free_a, free_b)

entry_passes : {n : ℕ} {before : List Entry} {m : Meaning} (e : Entry) → Open n before m → entry_follows_all before e ≡ true → e.first < n → e.second < n → checked m (entry_edit e) ≡ Ok tt
entry_passes {m = m} e o f a b =
    let c = o.count in
    let r = o.free e f a b in
    edit_passes m e (eqb e.first e.second) refl (omega arith) (omega arith) r.0 r.1

module _ {V : Type 0} {n : ℕ} {before : List Entry} {m p : Meaning} (e : Entry) (o : Open n before m) where
  edited_came : {r : Result (Unit {0}) SheetFault} → checked m (entry_edit e) ≡ Ok tt → Edited m (entry_edit e) p r → EntryCame {V = V} (told r) × Open n (before ++ (e ∷ [])) p
  edited_came ok (unfit bad _) = absurd (never (sym bad ∙ ok))
  edited_came ok (unplaceable _ _ _ same) = (came.unplaceable, open_same same (open_more e o))
  edited_came ok (done _ _ same) = (came.edited, open_same same (open_after e o))

  step_came : {k : Kind V} {s : Step V} {a : Answer V} → edit_of s ≡ Some (entry_edit e) → checked m (entry_edit e) ≡ Ok tt → Came k m p s a → EntryCame a × Open n (before ++ (e ∷ [])) p
  step_came is ok (an_edit {e = d} {r = r} edited) =
      let w = edit_of_step V d in
      let same : d ≡ entry_edit e = cc in
      edited_came ok (subst (λ (x : Edit). Edited m x p r) same edited)
  step_came is ok (a_placing _ _) = absurd (let z : ◌≡◌ {A = ℕ} 0 1 = cc in omega arith)

-- n lengths that are sizes
record AllSizes {V : Type 0} (k : Kind V) (n : ℕ) (list : List V) : Type 0 where
  long : length list ≡ n
  sizes : All k.size list

never_misfits : {V : Type 0} (k : Kind V) (n : ℕ) (w h work x y : List V) (f : SheetFault) → AllSizes k n w → AllSizes k n h → Blank n (five w h work x y) → Misfitting n (five w h work x y) f → ⊥
never_misfits k n w h work x y f ws hs blank (widths_length bad) = bad ws.long
never_misfits k n w h work x y f ws hs blank (heights_length _ bad) = bad hs.long
never_misfits k n w h work x y f ws hs blank (work_length _ _ bad) = bad blank.work_length
never_misfits k n w h work x y f ws hs blank (x_length _ _ _ bad) = bad blank.x_length
never_misfits k n w h work x y f ws hs blank (y_length _ _ _ _ bad) = bad blank.y_length

module _ {V : Type 0} (k : Kind V) (w h : List V) (m : Meaning) (ws : AllSizes k m.order.count w) (hs : AllSizes k m.order.count h) where
  unplaced_came : (work x y : List V) (f : SheetFault) → Blank m.order.count (five w h work x y) → Placing k m (five w h work x y) (five w h work x y) (Err f) → PlacingCame {V = V} (answer.Refused f)
  unplaced_came work x y f blank (misfitting bad _) = absurd (never_misfits k m.order.count w h work x y f ws hs blank bad)
  unplaced_came work x y f blank (unlawful _ (no_width {a} small _ bad) _) = absurd (bad (All-get_or k.size w a k.zero (omega (arith, ws.long)) ws.sizes))
  unplaced_came work x y f blank (unlawful _ (no_height {a} small _ _ bad) _) = absurd (bad (All-get_or k.size h a k.zero (omega (arith, hs.long)) hs.sizes))
  unplaced_came work x y f blank (unlawful _ (pair_differs _ _ _ _ _ _) _) = came.pair_differs
  unplaced_came work x y f blank (unlawful _ (odd_centre _ _ _ _ _ _) _) = came.odd_centre

  placed_came : {a : Answer V} → PlacedAnew k m w h a → PlacingCame a
  placed_came (placed _ _) = came.placed
  placed_came (unplaced {work} {x} {y} {f} blank placing) = unplaced_came work x y f blank placing

module _ {V : Type 0} (k : Kind V) (n : ℕ) (w h : Bor (List V)) (ws : AllSizes k n w.now) (hs : AllSizes k n h.now) where
  placing_came : {m p : Meaning} {s : Step V} {a : Answer V} → s ≡ step.Place w h → m.order.count ≡ n → Came k m p s a → PlacingCame a
  placing_came is count (an_edit {e = d} _) = let u = edit_of_step V d in let z : ◌≡◌ {A = ℕ} 0 1 = cc in absurd (omega arith)
  placing_came {m} is count (a_placing {w = v} {h = g} {a = a} anew _) =
      let same_w : v ≡ w = cc in
      let same_h : g ≡ h = cc in
      placed_came k w.now h.now m (subst (λ (l : ℕ). AllSizes k l w.now) (sym count) ws) (subst (λ (l : ℕ). AllSizes k l h.now) (sym count) hs)
      (subst (λ (r : Bor (List V)). PlacedAnew k m w.now r.now a) same_h (subst (λ (r : Bor (List V)). PlacedAnew k m r.now g.now a) same_w anew))

  ran_in_order : (es before : List Entry) {m q : Meaning} {s : Step V} {answers : List (Answer V)} → entries_check n before es ≡ Ok tt → s ≡ step.Place w h → Open n before m → Ran k m (map step_of_entry es ++ (s ∷ [])) answers q → InOrder es answers
  ran_in_order [] before fit is o (next c end) = came.last (placing_came is o.count c)
  ran_in_order (e ∷ es) before fit is o (next c ran) =
      let f = fitting n before e es fit in
      let r = step_came e o (edit_of_either V (eqb e.first e.second) e) (entry_passes e o f.2 (omega arith) f.1) c in
      came.entry r.0 (ran_in_order es (before ++ (e ∷ [])) f.3 is r.1 ran)

-- numbers that pass as those of a size
each_lawful : (ns : List ℕ) → all is_size_number ns ≡ true → EachLawful ns
each_lawful [] e = tt
each_lawful (v ∷ ns) e =
    let b = and_parts (is_size_number v) (all is_size_number ns) e in
    let s = b.0 in
    ((grind (arith, nat_tests), grind (arith, nat_tests)), each_lawful ns b.1)

-- the widths and the heights that a check passes are sizes
each_sized : {V : Type 0} (k : Kind V) (numbers : V → List ℕ) → ((v : V) → EachLawful (numbers v) → k.size v) → (cell : ℕ) (ws hs : List V) → length ws ≡ length hs → sizes_check cell (map numbers ws) (map numbers hs) ≡ Ok tt → All k.size ws × All k.size hs
each_sized k numbers sized cell [] [] l e = (tt, tt)
each_sized k numbers sized cell [] (h ∷ hs) l e = absurd (omega arith)
each_sized k numbers sized cell (w ∷ ws) [] l e = absurd (omega arith)
each_sized k numbers sized cell (w ∷ ws) (h ∷ hs) l e =
    let b = both_parts (pass_field (all is_size_number (numbers w)) (fault.NotASize 0 cell Width)) _ e in
    let c = both_parts (pass_field (all is_size_number (numbers h)) (fault.NotASize 0 cell Height)) (sizes_check (cell + 1) (map numbers ws) (map numbers hs)) b.1 in
    let rest = each_sized k numbers sized (cell + 1) ws hs (omega arith) c.1 in
    let x = sized w (each_lawful (numbers w) (passed (all is_size_number (numbers w)) _ b.0)) in
    let y = sized h (each_lawful (numbers h) (passed (all is_size_number (numbers h)) _ c.0)) in
    ((x, rest.0), (y, rest.1))

either_sizes : {V : Type 0} {k : Kind V} {n : ℕ} {us vs : List V} (t : Bool) → AllSizes k n us → AllSizes k n vs → AllSizes k n (cond t us vs)
either_sizes true u v = u
either_sizes false u v = v

module _ {V : Type 0} (k : Kind V) (numbers : V → List ℕ) (sized : (v : V) → EachLawful (numbers v) → k.size v) (job : Job V) (lawful : job_check (job_fields numbers job) ≡ Ok tt) where
  abbrev j : JobFields
  j = job_fields numbers job

  checked_parts : (sizes_check 0 j.widths j.heights ≡ Ok tt) × (entries_check j.count [] j.entries ≡ Ok tt)
  checked_parts =
      let a = both_parts (counts_check j.count j.processes) _ lawful in
      let b = both_parts (lists_check j j.order) _ a.1 in
      let c = both_parts (order_check j.count j.order) _ b.1 in
      both_parts (sizes_check 0 j.widths j.heights) (entries_check j.count [] j.entries) c.1

  -- the widths and the heights of the job
  job_sizes : AllSizes k job.count (vec_items job.widths) × AllSizes k job.count (vec_items job.heights)
  job_sizes =
      let c = job_checked j lawful in
      let long = (ordered j j.order (count_few j.count c.is_counted) c.lists c.order).1 in
      let ws = vec_items job.widths in
      let hs = vec_items job.heights in
      let wide : length ws ≡ job.count = sym (length-map ws numbers) ∙ long.0 in
      let high : length hs ≡ job.count = sym (length-map hs numbers) ∙ sym long.1.same ∙ long.0 in
      let sizes = each_sized k numbers sized 0 ws hs (wide ∙ sym high) checked_parts.0 in
      (record { long = wide; sizes = sizes.0 }, record { long = high; sizes = sizes.1 })

  -- what a lawful job's steps come to
  pub run_in_order : (o : Order) → o.count ≡ job.count → (steps : List (Step V)) (answers : List (Answer V)) → Asks job.turn (vec_items job.widths) (vec_items job.heights) (vec_items job.entries) steps → WholeRun k o steps answers → InOrder (vec_items job.entries) answers
  run_in_order o counted steps answers asks run =
      let n = job.count in
      let p = asks.places in
      let t = exchanges job.turn in
      let s = job_sizes in
      let ws = subst (AllSizes k n) (sym p.wide) (either_sizes t s.1 s.0) in
      let hs = subst (AllSizes k n) (sym p.high) (either_sizes t s.0 s.1) in
      let start = fresh_open o n counted run.starts in
      ran_in_order k n p.w p.h ws hs (vec_items job.entries) [] checked_parts.1 p.is start
      (subst (λ (l : List (Step V)). Ran k run.start l answers run.last) asks.are run.ran)
