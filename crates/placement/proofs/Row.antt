-- The row of three cells: what its order is, cell by cell.
use Rattle.std.proofs.Common.{◌≡◌, ℕ, ◌<◌, sym, refl, ap, ◌∙◌, arith}
use Rattle.book.specs.Order.{Apart, LeftOf, Laws}
use Rattle.placement.specs.PlacedRow.{rank, row}
use Rattle.placement.proofs.Listings.{each_below}
use Rattle.placement.proofs.Lines.{left_ranks, ranked_left, row_laws}

pub by_three : (P : ℕ → Type 0) → P 0 → P 1 → P 2 → (a : ℕ) → a < 3 → P a
by_three P p q r = each_below P 3 (r, (q, (p, tt)))

-- what holds of 0 and 1, 0 and 2, 2 and 1 holds wherever one is left of another
pub by_left : (P : ℕ → ℕ → Type 0) → P 0 1 → P 0 2 → P 2 1 → (a b : ℕ) → LeftOf row a b → P a b
by_left P p q r a b ab =
    by_three (λ (c : ℕ). rank c < rank b → P c b)
    (by_three (λ (d : ℕ). 0 < rank d → P 0 d) (λ low. absurd (omega arith)) (λ low. p) (λ low. q) b ab.apart.b_in)
    (by_three (λ (d : ℕ). 2 < rank d → P 1 d) (λ low. absurd (omega arith)) (λ low. absurd (omega arith)) (λ low. absurd (omega arith)) b ab.apart.b_in)
    (by_three (λ (d : ℕ). 1 < rank d → P 2 d) (λ low. absurd (omega arith)) (λ low. r) (λ low. absurd (omega arith)) b ab.apart.b_in)
    a ab.apart.a_in (left_ranks rank 3 a b ab)

pub left_0_1 : LeftOf row 0 1
left_0_1 = ranked_left rank 3 0 1 (record { a_in = omega arith; b_in = omega arith; differ = λ e. omega arith }) (omega arith)

pub left_0_2 : LeftOf row 0 2
left_0_2 = ranked_left rank 3 0 2 (record { a_in = omega arith; b_in = omega arith; differ = λ e. omega arith }) (omega arith)

pub left_2_1 : LeftOf row 2 1
left_2_1 = ranked_left rank 3 2 1 (record { a_in = omega arith; b_in = omega arith; differ = λ e. omega arith }) (omega arith)

rank_rank : (a : ℕ) → a < 3 → rank (rank a) ≡ a
rank_rank = by_three (λ (c : ℕ). rank (rank c) ≡ c) refl refl refl

ranks_differ : (a b : ℕ) → Apart row a b → rank a ≡ rank b → ⊥
ranks_differ a b apart e = apart.differ (sym (rank_rank a apart.a_in) ∙ ap rank e ∙ rank_rank b apart.b_in)

pub row_is_lawful : Laws row
row_is_lawful = row_laws rank 3 (omega arith) (omega arith) ranks_differ
