-- Nodes and their numbers: there and back, and which numbers are nodes of a sheet.
use Rattle.std.proofs.Common.{◌≡◌, ℕ, ◌+◌, ◌-◌, ◌*◌, ◌<◌, true, false, ltb, sym, ap, subst, ⊎_elim, arith}
use Rattle.std.proofs.lemmas.Bool.Decides.{nat_tests}
use Rattle.std.proofs.lemmas.Bool.{cases_lt}
use Rattle.placement.specs.Meaning.{Meaning}
use Rattle.placement.specs.Across.{Node, cell, image, IsNode}
use Rattle.placing.specs.Codes.{node_of}

-- the number of a node
abbrev pub code : ℕ → Node → ℕ
code n (cell a) = a
code n (image a) = n + a

pub low_is_cell : (n u : ℕ) → u < n → node_of n u ≡ cell u
low_is_cell n u low = let e : ltb u n ≡ true = grind (arith, nat_tests) in simp e

pub high_is_image : (n a : ℕ) → node_of n (n + a) ≡ image a
high_is_image n a =
    let e : ltb (n + a) n ≡ false = grind (arith, nat_tests) in
    let back : n + a - n ≡ a = omega arith in
    simp (e, back)

-- a number is that of a cell or of an image
pub data Number (n u : ℕ) : Type 0 where
  low : u < n → Number n u
  high : (a : ℕ) → u ≡ n + a → Number n u

pub number : (n u : ℕ) → Number n u
number n u = ⊎_elim (λ (l : u < n). low l) (λ h. high (u - n) (omega arith)) (cases_lt u n)

pub code_of_node : (n u : ℕ) → code n (node_of n u) ≡ u
code_of_node n u =
    elim (number n u) [
      | low l ↦ ap (code n) (low_is_cell n u l)
      | high a e ↦ subst (λ (v : ℕ). code n (node_of n v) ≡ v) (sym e) (ap (code n) (high_is_image n a))
    ]

module _ (m : Meaning) where
  abbrev count : ℕ
  count = m.order.count

  pub node_of_code : (u : Node) → IsNode m u → node_of count (code count u) ≡ u
  node_of_code (cell a) here = low_is_cell count a here
  node_of_code (image a) free = high_is_image count a

  pub code_below : (u : Node) → IsNode m u → code count u < 2 * count
  code_below (cell a) here = omega arith
  code_below (image a) free = let low : a < count = free.cell in omega arith

  pub number_below : (u : ℕ) → IsNode m (node_of count u) → u < 2 * count
  number_below u here = subst (λ (v : ℕ). v < 2 * count) (code_of_node count u) (code_below (node_of count u) here)
