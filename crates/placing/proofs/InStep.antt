-- Two lists of one length that are read in step, each pair with its number.
use Rattle.std.proofs.Common.{◌≡◌, ℕ, ◌<◌, List, length, get_or, zip, ap, ◌∙◌, zero-add, arith}
use Rattle.std.specs.List.{enumerate_from}
use Rattle.std.proofs.lemmas.List.{get_or_read}
use Rattle.std.proofs.lemmas.List.FromFn.{length-enumerate_from, get_or-enumerate_from}
use Rattle.std.proofs.lemmas.Slice.Zip.{length-zip, get_or-zip}

-- x and y are the entries i of the lists, and n is i
pub record Pair {V : Type 0} (xs ys : List V) (zero : V) (i n : ℕ) (x y : V) : Type 0 where
  pub inside : n < length xs
  pub number : n ≡ i
  pub first : x ≡ get_or xs n zero
  pub second : y ≡ get_or ys n zero

pub in_step : {V : Type 0} (xs ys : List V) (zero : V) (i n : ℕ) (x y : V) → length xs ≡ length ys → (i < length (enumerate_from 0 (zip xs ys))) × ((n, (x, y)) ≡ get_or (enumerate_from 0 (zip xs ys)) i (n, (x, y))) → Pair xs ys zero i n x y
in_step {V} xs ys zero i n x y alike (low, here) =
    let long : i < length (zip xs ys) = omega (arith, length-enumerate_from 0 (zip xs ys)) in
    let in_first : i < length xs = omega (arith, length-zip xs ys) in
    let in_second : i < length ys = omega arith in
    let all = here ∙ get_or-enumerate_from 0 (zip xs ys) i (n, (x, y)) long in
    let number : n ≡ i = ap (λ (t : ℕ × (V × V)). t.0) all ∙ zero-add i in
    let pair : ◌≡◌ {A = V × V} (x, y) (get_or xs i x, get_or ys i y) = ap (λ (t : ℕ × (V × V)). t.1) all ∙ get_or-zip xs ys i (x, y) in_first in_second in
    record {
      inside = omega arith;
      number = number;
      first = rw number (get_or_read xs i x in_first (ap (λ (t : V × V). t.0) pair) zero);
      second = rw number (get_or_read ys i y in_second (ap (λ (t : V × V). t.1) pair) zero);
    }
