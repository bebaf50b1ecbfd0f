-- What a call of the reader came to, by what its part of the file reads as.
use Rattle.std.specs.Prelude.{◌≡◌, ℕ, List, Option, Ok, Err, Result, MatchResult}
use Rattle.refusal.specs.declared.fault.ByteFault.{ByteFault}
use Rattle.refusal.specs.declared.fault.FieldFault.{FieldFault}
use Rattle.numbers.specs.Number.{Storable}
use Rattle.numbers.specs.Calls.{number_at}
use Rattle.formats.specs.Reading.{Reading}
use Rattle.reading.specs.declared.error.ReadError.{ReadError}
use Rattle.reading.specs.declared.error.ReadError.TheVariants.{Refused, Memory}
use Rattle.reading.specs.declared.reader.Reader.{Reader}

-- The reader was r, the call answered, and the reader is then r', over the same file: what `read` makes of the file at r is
-- what the answer says, up to the place of r', or it is a fault that the answer tells.
pub record Came {A B E : Type 0} (says : B → A) (tells : Reading A → E → Type 0) (read : List ℕ → ℕ → Reading A) (r : Reader) (answer : Result B E) (r' : Reader) : Type 0 where
  pub same : r'.bytes.now ≡ r.bytes.now
  pub told : MatchResult answer (λ b. read r.bytes.now r.at ≡ Ok (says b, r'.at)) (tells (read r.bytes.now r.at))

-- the answer is the fault
abbrev pub Refuses : {A : Type 0} → Result A FieldFault → FieldFault → Type 0
Refuses reading f = reading ≡ Err f

-- the fault is the file's, unless memory ran out
abbrev pub Fails : {A : Type 0} → Result A FieldFault → ReadError → Type 0
Fails reading (Refused f) = reading ≡ Err f
Fails reading Memory = Unit {0}

-- the call of a field, which answers what the field reads as
abbrev pub Took : {A : Type 0} → (List ℕ → ℕ → Reading A) → Reader → Result A FieldFault → Reader → Type 0
Took read = Came (λ a. a) Refuses read

-- the same of a call whose answer says `says`
abbrev pub TookBy : {A B : Type 0} → (B → A) → (List ℕ → ℕ → Reading A) → Reader → Result B FieldFault → Reader → Type 0
TookBy says read = Came says Refuses read

-- and of one that may run out of memory
abbrev pub TookAs : {A B : Type 0} → (B → A) → (List ℕ → ℕ → Reading A) → Reader → Result B ReadError → Reader → Type 0
TookAs says read = Came says Fails read

-- what may be answered for a number that a file can hold is what `means` says of it
abbrev pub Knows : {A : Type 0} → (ℕ → Option A → Type 0) → (ℕ → Option A) → Type 0
Knows {A} answers means = (v : ℕ) (a : Option A) → Storable v → answers v a → a ≡ means v

-- the call of a number, which leaves the reader where it is where there is none
pub record TookNumber (r : Reader) (answer : Result ℕ ByteFault) (r' : Reader) : Type 0 where
  pub same : r'.bytes.now ≡ r.bytes.now
  pub told : MatchResult answer (λ v. number_at r.bytes.now r.at ≡ Ok (v, r'.at)) (λ f. (number_at r.bytes.now r.at ≡ Err f) × (r'.at ≡ r.at))
