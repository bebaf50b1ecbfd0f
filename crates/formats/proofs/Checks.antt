-- Checks that pass: both of two, a test, and the counts; and that no answer is a value and a fault.
use Rattle.std.proofs.Common.{◌≡◌, ℕ, Bool, true, false, Ok, Err, Result, refl, ap, ◌∙◌, arith}
use Rattle.refusal.specs.declared.fault.SheetFault.{SheetFault}
use Rattle.refusal.specs.declared.fault.SheetFault.TheVariants as sheet
use Rattle.refusal.specs.declared.fault.FieldFault.TheVariants as fault
use Rattle.formats.specs.Rules.{is_cell_count, is_processes}
use Rattle.formats.specs.Writing.{Check, pass, both, pass_field, counts_check}

pub never : {A E : Type 0} {x : A} {f : E} → ◌≡◌ {A = Result A E} (Err f) (Ok x) → ⊥
never e = cc

pub both_parts : (a b : Check) → both a b ≡ Ok tt → (a ≡ Ok tt) × (b ≡ Ok tt)
both_parts (Ok u) b e = (refl, e)
both_parts (Err f) b e = absurd (never e)

pub both_from : {a b : Check} → a ≡ Ok tt → b ≡ Ok tt → both a b ≡ Ok tt
both_from {a} {b} p q = ap (λ x. both x b) p ∙ q

pub passed : (ok : Bool) (f : SheetFault) → pass ok f ≡ Ok tt → ok ≡ true
passed true f e = refl
passed false f e = absurd (never e)

pub pass_from : {ok : Bool} (f : SheetFault) → ok ≡ true → pass ok f ≡ Ok tt
pass_from f e = ap (λ b. pass b f) e

pub counted : (n k : ℕ) → counts_check n k ≡ Ok tt → (is_cell_count n ≡ true) × (is_processes k ≡ true)
counted n k e =
    let b = both_parts (pass_field (is_cell_count n) (fault.CellCount 0 n)) (pass_field (is_processes k) (fault.UnknownChoice 0)) e in
    (passed (is_cell_count n) _ b.0, passed (is_processes k) _ b.1)

pub count_passes : (n k : ℕ) → is_cell_count n ≡ true → is_processes k ≡ true → counts_check n k ≡ Ok tt
count_passes n k e f = both_from (pass_from (sheet.Field (fault.CellCount 0 n)) e) (pass_from (sheet.Field (fault.UnknownChoice 0)) f)
