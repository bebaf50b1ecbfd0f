-- What a call on something lawful comes to: it is not refused.
use Rattle.std.proofs.Common.{◌≡◌, ℕ, List, ◌++◌, length, Ok, Err, Result, sym, ap, ◌∙◌, append-nil, arith, MatchResult}
use Rattle.std.proofs.lemmas.List.{drop_all}
use Rattle.std.specs.Result.{result_unwrap_or}
use Rattle.refusal.specs.declared.fault.SheetFault.{SheetFault}
use Rattle.formats.specs.Writing.{Check, Written, refused, too_short, whole}
use Rattle.formats.proofs.Checks.{never}

pub value_of : (r : Result ℕ SheetFault) (check : Check) (n : ℕ) → check ≡ Ok tt → MatchResult r (λ at. (check ≡ Ok tt) × (at ≡ n)) (λ f. check ≡ Err f) → result_unwrap_or r 0 ≡ n
value_of (Ok at) check n ok told = told.1
value_of (Err f) check n ok told = absurd (never (sym told ∙ ok))

-- a file written into just as many bytes is all that they hold
pub written_whole : {check : Check} {bs out out' : List ℕ} {r : Result ℕ SheetFault} → check ≡ Ok tt → length out ≡ length bs → Written check bs out out' r → out' ≡ bs
written_whole ok long (refused bad _) = absurd (never (sym bad ∙ ok))
written_whole ok long (too_short _ short _) = absurd (omega arith)
written_whole {bs = bs} {out = out} ok long (whole _ _ is) =
    is ∙ ap (λ (rest : List ℕ). bs ++ rest) (drop_all (length bs) out (omega arith)) ∙ append-nil bs
