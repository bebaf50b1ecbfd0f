-- What putting numbers into a file comes to.
use Rattle.std.specs.Prelude.{◌≡◌, ℕ, ◌+◌, ◌≤◌, List, length}
use Rattle.numbers.specs.Number.{encode_all}
use Rattle.numbers.specs.Stored.{put}
use Rattle.writing.specs.declared.pen.Pen.{Pen}

-- The pen put these numbers: it stands behind them, still over the same output, and where they fit they stand there.
pub record Puts (before : Pen) (numbers : List ℕ) (after : Pen) : Type 0 where
  pub same : after.out.ghost_name ≡ before.out.ghost_name
  pub long : length after.out.now ≡ length before.out.now
  pub next : after.at ≡ before.at + length (encode_all numbers)
  pub fits : before.at + length (encode_all numbers) ≤ length before.out.now → after.out.now ≡ put before.out.now before.at (encode_all numbers)
