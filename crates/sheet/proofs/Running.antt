-- A run grows at its end, step by step.
use Rattle.std.proofs.Common.{◌≡◌, ℕ, ◌+◌, ◌<◌, ◌≤◌, List, [], ◌∷◌, ◌++◌, length, get_or, take, Ok, Err, Result, sym, refl, ap, ◌∙◌, subst}
use Rattle.std.proofs.lemmas.List.{take_more, take_all}
use Rattle.refusal.specs.declared.fault.SheetFault.{SheetFault}
use Rattle.length.specs.Kind.{Kind}
use Rattle.placement.specs.Meaning.{Meaning}
use Rattle.sheet.specs.declared.steps.Step.{Step}
use Rattle.sheet.specs.declared.steps.Answer.{Answer}
use Rattle.sheet.specs.Edits.{Edit, swap, pair, centre, release, after, Edited, unfit, unplaceable, done}
use Rattle.sheet.specs.Runs.{Came, an_edit, a_placing, Ran, end, next, edit_step, told, IsFilled}

pub ran_more : {V : Type 0} {k : Kind V} {m p q : Meaning} {steps : List (Step V)} {answers : List (Answer V)} {s : Step V} {a : Answer V} → Ran k m steps answers p → Came k p q s a → Ran k m (steps ++ (s ∷ [])) (answers ++ (a ∷ [])) q
ran_more end came = next came end
ran_more (next first rest) came = next first (ran_more rest came)

-- one step more of a list of steps
pub ran_next : {V : Type 0} {k : Kind V} {m p q : Meaning} (steps : List (Step V)) (i : ℕ) (s : Step V) (a : Answer V) (answers grown : List (Answer V)) → i < length steps → s ≡ get_or steps i s → grown ≡ answers ++ (a ∷ []) → Ran k m (take i steps) answers p → Came k p q s a → Ran k m (take (i + 1) steps) grown q
ran_next {V} {k} {m} {p} {q} steps i s a answers grown inside is items ran came =
    let more : take (i + 1) steps ≡ take i steps ++ (s ∷ []) = take_more steps i s inside ∙ ap (λ (x : Step V). take i steps ++ (x ∷ [])) (sym is) in
    subst (λ (ss : List (Step V)). Ran k m ss grown q) (sym more) (subst (λ (list : List (Answer V)). Ran k m (take i steps ++ (s ∷ [])) list q) (sym items) (ran_more ran came))

-- an edit's step, from the edit's own promise
pub came_edit : {V : Type 0} {k : Kind V} {m p : Meaning} (e : Edit) (s : Step V) (a : Answer V) (r : Result (Unit {0}) SheetFault) → s ≡ edit_step e → a ≡ told r → Edited m e p r → Came k m p s a
came_edit {V} {k} {m} {p} e s a r is_step is_answer edited =
    subst (λ (x : Step V). Came k m p x a) (sym is_step) (subst (λ (y : Answer V). Came k m p (edit_step e) y) (sym is_answer) (an_edit edited))

-- all steps
pub ran_all : {V : Type 0} {k : Kind V} {m p : Meaning} (steps : List (Step V)) (i : ℕ) {answers : List (Answer V)} → length steps ≤ i → Ran k m (take i steps) answers p → Ran k m steps answers p
ran_all {V} {k} {m} {p} steps i {answers} all ran = subst (λ (ss : List (Step V)). Ran k m ss answers p) (take_all i steps all) ran

-- no edit changes the number of cells
after_count : (m : Meaning) (e : Edit) → (after m e).order.count ≡ m.order.count
after_count m (swap a b) = refl
after_count m (pair a b) = refl
after_count m (centre a) = refl
after_count m (release a) = refl

edited_count : {m p : Meaning} {e : Edit} {r : Result (Unit {0}) SheetFault} → Edited m e p r → p.order.count ≡ m.order.count
edited_count (unfit _ same) = same.order.count
edited_count (unplaceable _ _ _ same) = same.order.count
edited_count {m} {p} {e} (done _ _ same) = same.order.count ∙ after_count m e

-- nor does a step
pub came_count : {V : Type 0} {k : Kind V} {m p : Meaning} {s : Step V} {a : Answer V} → Came k m p s a → p.order.count ≡ m.order.count
came_count (an_edit edited) = edited_count edited
came_count {m = m} (a_placing _ same) = subst (λ (q : Meaning). q.order.count ≡ m.order.count) same refl

-- an edit's answer tells of no placing
pub edit_filled : {V : Type 0} (n : ℕ) (r : Result (Unit {0}) SheetFault) (a : Answer V) → a ≡ told r → IsFilled n a
edit_filled n (Ok _) a is = subst (IsFilled n) (sym is) tt
edit_filled n (Err f) a is = subst (IsFilled n) (sym is) tt
