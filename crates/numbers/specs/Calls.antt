-- What the calls that read and write one number come to.
use Rattle.std.specs.Prelude.{◌≡◌, ℕ, ◌+◌, ◌<◌, ◌≤◌, List, length, drop, Ok, Err, Result}
use Rattle.refusal.specs.declared.fault.ByteFault.{ByteFault}
use Rattle.refusal.specs.declared.fault.ByteFault.TheVariants.{Ends, NotShortest}
use Rattle.numbers.specs.Number.{Got, got, short, bad, decode}
use Rattle.numbers.specs.Stored.{put}

-- at place p of the file: the number and the place behind it; or the file ends, told by its length; or a form that is not
-- lawful, told by the place of the number's first byte
abbrev pub told : List ℕ → ℕ → Got → Result (ℕ × ℕ) ByteFault
told file p (got v n) = Ok (v, p + n)
told file p short = Err (Ends (length file))
told file p bad = Err (NotShortest p)

abbrev pub number_at : List ℕ → ℕ → Result (ℕ × ℕ) ByteFault
number_at file p = told file p (decode (drop p file))

-- bytes written at place p of the output out, which is out' afterwards: whole, or not at all where they do not fit
pub record Wrote (out : List ℕ) (p : ℕ) (bs : List ℕ) (out' : List ℕ) : Type 0 where
  pub fits : p + length bs ≤ length out → out' ≡ put out p bs
  pub overflows : length out < p + length bs → out' ≡ out
