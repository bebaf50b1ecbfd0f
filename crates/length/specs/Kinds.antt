-- The two kinds of length. A struct's numbers are natural numbers here, so that sums of any size are values. Assumes nothing.
use Rattle.std.specs.Prelude.{ℕ, ◌+◌, ◌-◌, ◌/◌, ◌%◌, ◌<◌, ◌≤◌, max, List, [], ◌∷◌, ◌++◌, codes, decimal}
use Rattle.length.specs.Kind.{Kind, largest_size}
use Rattle.length.specs.declared.Plain.{Plain}
use Rattle.length.specs.declared.PerProcess.{PerProcess}

abbrev pub half_down : ℕ → ℕ
half_down n = n / 2

abbrev pub half_up : ℕ → ℕ
half_up n = n / 2 + n % 2

-- a number that a size may have
abbrev pub Lawful : ℕ → Type 0
Lawful n = (0 < n) × (n ≤ largest_size)

-- each of these numbers is one that a size may have
abbrev pub EachLawful : List ℕ → Type 0
EachLawful [] = Unit {0}
EachLawful (n ∷ ns) = Lawful n × EachLawful ns

abbrev pub plain : ℕ → Plain
plain n = record { 0 = n }

abbrev pub three : ℕ → ℕ → ℕ → PerProcess
three x y z = record { first = x; second = y; third = z }

-- process by process
abbrev pub each : (ℕ → ℕ) → PerProcess → PerProcess
each f x = three (f x.first) (f x.second) (f x.third)

abbrev pub both : (ℕ → ℕ → ℕ) → PerProcess → PerProcess → PerProcess
both f x y = three (f x.first y.first) (f x.second y.second) (f x.third y.third)

abbrev pub largest : PerProcess → ℕ
largest x = max x.first (max x.second x.third)

-- one whole number
abbrev pub plain_kind : Kind Plain
plain_kind = record {
  at_most = λ x y. x.0 ≤ y.0;
  zero = plain 0;
  plus = λ x y. plain (x.0 + y.0);
  join = λ x y. plain (max x.0 y.0);
  minus = λ x y. plain (x.0 - y.0);
  lower = λ x. plain (half_down x.0);
  upper = λ x. plain (half_up x.0);
  measure = λ x. x.0;
  size = λ x. Lawful x.0;
}

-- three numbers, one a process
abbrev pub process_kind : Kind PerProcess
process_kind = record {
  at_most = λ x y. (x.first ≤ y.first) × (x.second ≤ y.second) × (x.third ≤ y.third);
  zero = three 0 0 0;
  plus = both ◌+◌;
  join = both max;
  minus = both ◌-◌;
  lower = each half_down;
  upper = each half_up;
  measure = largest;
  size = λ x. Lawful x.first × Lawful x.second × Lawful x.third;
}

-- the numbers of a length, process by process
abbrev pub plain_numbers : Plain → List ℕ
plain_numbers x = x.0 ∷ []

abbrev pub process_numbers : PerProcess → List ℕ
process_numbers x = x.first ∷ x.second ∷ x.third ∷ []

-- what is printed of a length: 7, or 7/8/9
abbrev pub plain_text : Plain → List ℕ
plain_text x = decimal x.0

abbrev pub process_text : PerProcess → List ℕ
process_text x = decimal x.first ++ (codes "/" ++ (decimal x.second ++ (codes "/" ++ decimal x.third)))
