-- Where the output is too short, it stays as it was; else the whole file stands at its front.
use Rattle.std.proofs.Common.{◌≡◌, ℕ, ◌+◌, ◌<◌, ◌≤◌, List, ◌++◌, length, drop, IsErrAnd, Ok, Err, Result, sym, refl, ap, ◌∙◌, subst, zero-add, arith}
use Rattle.refusal.specs.declared.fault.FieldFault.TheVariants as fault
use Rattle.refusal.specs.declared.fault.SheetFault.{SheetFault}
use Rattle.refusal.specs.declared.fault.SheetFault.TheVariants as sheet
use Rattle.numbers.specs.Number.{encode_all}
use Rattle.numbers.specs.Stored.{put}
use Rattle.numbers.proofs.NumberLaws.{writing_frames}
use Rattle.formats.specs.Writing.{Check, Written, refused, too_short, whole}
use Rattle.book.proofs.Exits.{exit_at}
use Rattle.writing.specs.declared.pen.Pen.{Pen}
use Rattle.writing.specs.Calls.{Puts}

module _ (ns : List ℕ) (needed : ℕ) (reckoned : needed ≡ length (encode_all ns)) where
  pub written_short : (out : List ℕ) → length out < needed → Written (Ok tt) (encode_all ns) out out (Err (sheet.Field (fault.OutputTooShort needed)))
  written_short out h =
      subst (λ (n : ℕ). Written (Ok tt) (encode_all ns) out out (Err (sheet.Field (fault.OutputTooShort n)))) (sym reckoned) (too_short refl (omega arith) refl)

  pub written_whole : {out out' : List ℕ} (p q : Pen) → p.out.now ≡ out → p.at ≡ 0 → needed ≤ length out → Puts p ns q → out' ≡ q.out.now → Written (Ok tt) (encode_all ns) out out' (Ok needed)
  written_whole {out} {out'} p q over start h s left =
      let room : p.at + length (encode_all ns) ≤ length p.out.now = omega (arith, ap length over) in
      let here : out' ≡ put out 0 (encode_all ns) = let done = s.fits room in cc in
      let front : put out 0 (encode_all ns) ≡ encode_all ns ++ drop (length (encode_all ns)) out = rw zero-add at (writing_frames out 0 (encode_all ns) (omega arith)) in
      subst (λ (n : ℕ). Written (Ok tt) (encode_all ns) out out' (Ok n)) (sym reckoned) (whole refl (omega arith) (here ∙ front))

pub written_refused : {check : Check} {bs out : List ℕ} (r : Result ℕ SheetFault) (f : SheetFault) → IsErrAnd r (λ y. y ≡ f) → check ≡ Err f → Written check bs out out r
written_refused {check} {bs} {out} r f by e = exit_at (Written check bs out out) r f by (refused e refl)
