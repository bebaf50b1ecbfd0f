-- One turn of telling what the steps of a job came to.
use Rattle.std.proofs.Common.{◌≡◌, ℕ, ◌+◌, ◌<◌, ◌≤◌, List, [], ◌∷◌, length, get_or, drop, sym, ap, ◌∙◌, subst, All}
use Rattle.std.proofs.lemmas.List.{at_drop_all}
use Rattle.refusal.specs.declared.fault.SheetFault.{SheetFault}
use Rattle.refusal.specs.Register.{sheet_told}
use Rattle.sheet.specs.declared.steps.Answer.{Answer}
use Rattle.sheet.specs.declared.steps.Answer.TheVariants as answer
use Rattle.sheet.specs.declared.steps.Coordinates.{Coordinates}
use Rattle.sheet.specs.Runs.{Filled, IsFilled}
use Rattle.formats.specs.Files.{JobFields, placement_bytes}
use Rattle.formats.proofs.Scanning.{from_index}
use Rattle.jobs.specs.Refusals.{refusal_bytes, place_of_fault}
use Rattle.jobs.specs.Answers.{told, placement_said}

module _ {V : Type 0} (numbers : V → List ℕ) (j : JobFields) (n i : ℕ) (answers : List (Answer V)) (a : Answer V) (inside : i < length answers) (here : a ≡ get_or answers i a) where
  at_index : drop i answers ≡ a ∷ drop (i + 1) answers
  at_index = from_index answers i a inside ∙ ap (λ (b : Answer V). b ∷ drop (i + 1) answers) (sym here)

  told_here : (b : Answer V) → a ≡ b → told numbers j i (drop i answers) ≡ told numbers j i (b ∷ drop (i + 1) answers)
  told_here b is = ap (told numbers j i) (at_index ∙ ap (λ (c : Answer V). c ∷ drop (i + 1) answers) is)

  pub told_refused : (f : SheetFault) → a ≡ answer.Refused f → told numbers j i (drop i answers) ≡ refusal_bytes (sheet_told (place_of_fault j i f) f)
  told_refused f is = told_here (answer.Refused f) is

  pub told_placed : (c : Coordinates V) → a ≡ answer.Placed c → told numbers j i (drop i answers) ≡ placement_bytes (placement_said numbers j c)
  told_placed c is = told_here (answer.Placed c) is

  pub filled_placed : (c : Coordinates V) → a ≡ answer.Placed c → All (IsFilled n) answers → Filled n c
  filled_placed c is all = subst (IsFilled n) (sym here ∙ is) (all i a inside)

  pub told_edited : a ≡ answer.Edited → told numbers j i (drop i answers) ≡ told numbers j (i + 1) (drop (i + 1) answers)
  told_edited is = told_here answer.Edited is

pub told_all : {V : Type 0} (numbers : V → List ℕ) (j : JobFields) (i : ℕ) (answers : List (Answer V)) → length answers ≤ i → told numbers j i (drop i answers) ≡ []
told_all numbers j i answers all = at_drop_all (told numbers j i) answers i all
