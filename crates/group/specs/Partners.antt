-- When a table of partners is lawful.
use Rattle.std.specs.Prelude.{◌≡◌, ℕ, ◌<◌, List, Some, None, Option, slice_index_or}

-- only cells of n have a partner
abbrev pub Inside : ℕ → List (Option ℕ) → Type 0
Inside n partner = (x y : ℕ) → slice_index_or partner x None ≡ Some y → x < n

-- partners are partners of each other
abbrev pub Returned : List (Option ℕ) → Type 0
Returned partner = (x y : ℕ) → slice_index_or partner x None ≡ Some y → slice_index_or partner y None ≡ Some x
