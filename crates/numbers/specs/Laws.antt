-- The laws of numbers in files, each named by what it says.
use Rattle.std.specs.Prelude.{◌≡◌, ℕ, ◌+◌, ◌≤◌, List, ◌++◌, length, take, drop, Ok}
use Rattle.numbers.specs.Number.{Storable, encode}
use Rattle.numbers.specs.Stored.{Bytes, Stands, put}
use Rattle.numbers.specs.Calls.{number_at}

-- a number reads back from its bytes, wherever they stand
abbrev pub ReadsBack : Type 0
ReadsBack = (file : List ℕ) (p v q : ℕ) → Storable v → Stands file p (encode v) q → number_at file p ≡ Ok (v, q)

-- what reads as a number are the bytes of that number
abbrev pub OnlySo : Type 0
OnlySo = (file : List ℕ) (p v q : ℕ) → Bytes file → p ≤ length file → number_at file p ≡ Ok (v, q) → Storable v × Stands file p (encode v) q

-- no number's bytes begin those of another: bytes that begin with both are of one number, and go on alike
abbrev pub BytesTellApart : Type 0
BytesTellApart = (v w : ℕ) (r s : List ℕ) → Storable v → Storable w → encode v ++ r ≡ encode w ++ s → (v ≡ w) × (r ≡ s)

-- bytes that are written where they fit change no other byte
abbrev pub WritingFrames : Type 0
WritingFrames = (file : List ℕ) (p : ℕ) (bs : List ℕ) → p + length bs ≤ length file → put file p bs ≡ take p file ++ (bs ++ drop (p + length bs) file)
