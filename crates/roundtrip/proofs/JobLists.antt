-- The lists of a job are of the right lengths and its order fits, exactly where the checks of them pass.
use Rattle.std.proofs.Common.{◌≡◌, ℕ, ◌-◌, ◌*◌, ◌≤◌, eqb, List, [], length, Ok}
use Rattle.std.proofs.lemmas.Bool.{eqb-true, eq-eqb}
use Rattle.refusal.specs.declared.fault.SheetFault.TheVariants as sheet
use Rattle.formats.specs.declared.fields.BookKind.{BookKind}
use Rattle.formats.specs.declared.fields.BookKind.TheVariants.{SequencePair, Slicing}
use Rattle.formats.specs.Rules.{fits}
use Rattle.formats.specs.Files.{OrderFields, rows, expression, JobFields}
use Rattle.formats.specs.Reading.{misordered}
use Rattle.formats.specs.Writing.{Check, length_check, columns_check, lists_check, list_check, order_check}
use Rattle.formats.proofs.Checks.{both_parts, both_from, passed, pass_from}
use Rattle.roundtrip.proofs.Orders.{Fitting, Ordered}
use Rattle.formats.proofs.Small.{order_small}
use Rattle.roundtrip.proofs.Level.{Level, checked_level, level_checked}

module _ (j : JobFields) where
  abbrev n : ℕ
  n = j.count

  abbrev long : ℕ → ℕ → List ℕ → Check
  long l k us = length_check (eqb (length us) k) l

  abbrev fit : BookKind → ℕ → List ℕ → Check
  fit kind l us = list_check (fits kind n) (λ i. misordered l i 0) [] us

  fitting : (kind : BookKind) (l k : ℕ) (us : List ℕ) → n ≤ 64 → long l k us ≡ Ok tt → fit kind l us ≡ Ok tt → Fitting kind n l k us
  fitting kind l k us few e f = (eqb-true (length us) k (passed (eqb (length us) k) _ e), f, order_small kind n (λ i. misordered l i 0) [] us few f)

  long_from : (kind : BookKind) (l k : ℕ) (us : List ℕ) → Fitting kind n l k us → long l k us ≡ Ok tt
  long_from kind l k us r = pass_from (sheet.ListLength l) (eq-eqb (length us) k r.0)

  abbrev Sides : Type 0
  Sides = (length j.widths ≡ n) × Level j.processes j.widths j.heights

  sides : (l : ℕ) → columns_check n j.processes l j.widths j.heights ≡ Ok tt → Sides
  sides l e = checked_level j.processes n l j.widths j.heights e

  sides_pass : (l : ℕ) → Sides → columns_check n j.processes l j.widths j.heights ≡ Ok tt
  sides_pass l s = level_checked j.processes n l j.widths j.heights s.0 s.1

  pub ordered : (o : OrderFields) → n ≤ 64 → lists_check j o ≡ Ok tt → order_check n o ≡ Ok tt → Ordered n o × Sides
  ordered (rows a b) few e f =
      let x = both_parts (long 1 n a) _ e in
      let y = both_parts (long 2 n b) _ x.1 in
      let z = both_parts (fit SequencePair 1 a) (fit SequencePair 2 b) f in
      ((fitting SequencePair 1 n a few x.0 z.0, fitting SequencePair 2 n b few y.0 z.1), sides 3 y.1)
  ordered (expression a) few e f =
      let x = both_parts (long 1 (2 * n - 1) a) _ e in
      (fitting Slicing 1 (2 * n - 1) a few x.0 f, sides 2 x.1)

  pub listed : (o : OrderFields) → Ordered n o → Sides → lists_check j o ≡ Ok tt
  listed (rows a b) r s =
      both_from (long_from SequencePair 1 n a r.0)
      (both_from (long_from SequencePair 2 n b r.1) (sides_pass 3 s))
  listed (expression a) r s = both_from (long_from Slicing 1 (2 * n - 1) a r) (sides_pass 2 s)

  pub order_passes : (o : OrderFields) → Ordered n o → order_check n o ≡ Ok tt
  order_passes (rows a b) r = both_from r.0.1 r.1.1
  order_passes (expression a) r = r.1
