-- What a call that reads hands on by a `?`.
use Rattle.std.proofs.Common.{◌≡◌, IsErrAnd, Err, Result, MatchResult}
use Rattle.refusal.specs.declared.fault.FieldFault.{FieldFault}
use Rattle.reading.specs.declared.error.ReadError.{ReadError}
use Rattle.reading.specs.declared.error.ReadError.TheVariants.{Refused}
use Rattle.reading.specs.Calls.{Fails}
use Rattle.book.proofs.Exits.{exit_with}

module _ {A B : Type 0} (P : B → Type 0) (whole : Result A FieldFault) (r : Result B ReadError) where
  -- the fault of a part is the fault of the whole
  pub refused_by : (f : FieldFault) → IsErrAnd r (λ e. e ≡ Refused f) → whole ≡ Err f → MatchResult r P (Fails whole)
  refused_by f out is = exit_with P (Fails whole) r (Refused f) out is
