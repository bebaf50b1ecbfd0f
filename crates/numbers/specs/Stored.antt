-- Bytes in a file: where they stand, and what writing them makes of it.
use Rattle.std.specs.Prelude.{◌≡◌, ℕ, ◌+◌, ◌<◌, ◌≤◌, List, [], ◌∷◌, ◌++◌, length, drop, slice_set}

-- each of these is a byte
abbrev pub Bytes : List ℕ → Type 0
Bytes [] = Unit {0}
Bytes (b ∷ bs) = (b < 256) × Bytes bs

-- the bytes bs stand at place p of the file, and the place behind them is q
pub record Stands (file : List ℕ) (p : ℕ) (bs : List ℕ) (q : ℕ) : Type 0 where
  pub here : drop p file ≡ bs ++ drop q file
  pub long : q ≡ p + length bs
  pub inside : q ≤ length file

-- the file with the bytes bs written over those from place p on
abbrev pub put : List ℕ → ℕ → List ℕ → List ℕ
put file p [] = file
put file p (b ∷ bs) = put (slice_set file p b) (p + 1) bs
