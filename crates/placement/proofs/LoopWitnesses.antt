-- The stack of three is a lawful sheet with a loop downward, the row of five one with a loop across.
use Rattle.std.proofs.Common.{◌≡◌, ℕ, ◌<◌, Some, None, refl, subst, inl, inr, arith}
use Rattle.book.specs.Order.{LeftOf, AboveOf}
use Rattle.placement.specs.Meaning.{Meaning, Mate, Free}
use Rattle.placement.specs.Across.{of_mate, of_free, straight, mirrored}
use Rattle.placement.specs.Witnesses.{stack_of_three, StackOfThreeLoops, row_of_five, RowOfFiveLoops}
use Rattle.placement.proofs.Listings.{each_below}
use Rattle.placement.proofs.Lines.{row_laws, stack_laws, ranked_left, ranked_above}

-- Mates told one by one

-- whoever is told to be c's mate has c for its mate
abbrev Mutual : Meaning → ℕ → Type 0
Mutual m c = (b : ℕ) → m.mate c ≡ Some b → Mate m b c

mutual_with : (m : Meaning) (c d : ℕ) → m.mate c ≡ Some d → Mate m d c → Mutual m c
mutual_with m c d told back b e = let same : d ≡ b = cc in subst (λ (x : ℕ). Mate m x c) same back

mutual_free : (m : Meaning) (c : ℕ) → m.mate c ≡ None → Mutual m c
mutual_free m c told b e = let z : ◌≡◌ {A = ℕ} 0 1 = cc in absurd (omega arith)

-- A loop downward

stack_above : (a b : ℕ) → a < b → b < 3 → AboveOf stack_of_three.order a b
stack_above a b low high = ranked_above (λ c. c) 3 a b (record { a_in = omega arith; b_in = high; differ = λ e. omega arith }) low

stack_0_2 : Mate stack_of_three 0 2
stack_0_2 = record { cell = omega arith; told = refl }

stack_2_0 : Mate stack_of_three 2 0
stack_2_0 = record { cell = omega arith; told = refl }

stack_mutual : (a : ℕ) → a < 3 → Mutual stack_of_three a
stack_mutual =
    each_below (Mutual stack_of_three) 3
    (mutual_with stack_of_three 2 0 refl stack_0_2, (mutual_free stack_of_three 1 refl, (mutual_with stack_of_three 0 2 refl stack_2_0, tt)))

pub stack_of_three_loops_lem : StackOfThreeLoops
stack_of_three_loops_lem =
    record {
      lawful =
          record {
            laws = stack_laws (λ a. a) 3 (omega arith) (omega arith) (λ a b apart. apart.differ);
            both_ways = λ a b mate. stack_mutual a mate.cell b mate.told;
          };
      round = (inr (0, stack_2_0, stack_above 0 1 (omega arith) (omega arith)), inl (stack_above 1 2 (omega arith) (omega arith)));
      couple =
          record {
            mx = 2;
            my = 0;
            x_mate = stack_0_2;
            y_mate = stack_2_0;
            clash = inr (stack_above 0 2 (omega arith) (omega arith), stack_above 0 2 (omega arith) (omega arith));
          };
    }

-- A loop across

row_left : (a b : ℕ) → a < b → b < 5 → LeftOf row_of_five.order a b
row_left a b low high = ranked_left (λ c. c) 5 a b (record { a_in = omega arith; b_in = high; differ = λ e. omega arith }) low

row_0_3 : Mate row_of_five 0 3
row_0_3 = record { cell = omega arith; told = refl }

row_3_0 : Mate row_of_five 3 0
row_3_0 = record { cell = omega arith; told = refl }

row_2_4 : Mate row_of_five 2 4
row_2_4 = record { cell = omega arith; told = refl }

row_4_2 : Mate row_of_five 4 2
row_4_2 = record { cell = omega arith; told = refl }

row_1_free : Free row_of_five 1
row_1_free = record { cell = omega arith; told = refl }

row_mutual : (a : ℕ) → a < 5 → Mutual row_of_five a
row_mutual =
    each_below (Mutual row_of_five) 5 (
      mutual_with row_of_five 4 2 refl row_2_4,
      (
        mutual_with row_of_five 3 0 refl row_0_3,
        (mutual_with row_of_five 2 4 refl row_4_2, (mutual_free row_of_five 1 refl, (mutual_with row_of_five 0 3 refl row_3_0, tt))),
      ),
    )

pub row_of_five_loops_lem : RowOfFiveLoops
row_of_five_loops_lem =
    record {
      lawful =
          record {
            laws = row_laws (λ a. a) 5 (omega arith) (omega arith) (λ a b apart. apart.differ);
            both_ways = λ a b mate. row_mutual a mate.cell b mate.told;
          };
      round = (
        mirrored (row_left 1 2 (omega arith) (omega arith)) (of_mate row_2_4) (of_free row_1_free),
        (
          mirrored (row_left 0 1 (omega arith) (omega arith)) (of_free row_1_free) (of_mate row_0_3),
          straight (row_left 3 4 (omega arith) (omega arith)),
        ),
      );
      couple =
          record {
            mx = 3;
            my = 4;
            x_mate = row_0_3;
            y_mate = row_2_4;
            clash = inl (row_left 0 2 (omega arith) (omega arith), row_left 3 4 (omega arith) (omega arith));
          };
    }
