-- Exchanging two names: there and back, within the cells, and what it does to a table of places.
use Rattle.std.proofs.Common.{◌≡◌, ℕ, ◌<◌, List, length, get_or, sym, ◌∙◌, arith}
use Rattle.std.proofs.lemmas.Bool.Decides.{nat_tests}
use Rattle.book.specs.Order.{trade, Order, Apart, SameOrder, swapped}
use Rattle.book.specs.Places.{Places}

pub trade_in : (n a b x : ℕ) → a < n → b < n → x < n → trade a b x < n
trade_in n a b x p q r = grind (arith, nat_tests)

pub trade_back : (a b x : ℕ) → trade a b (trade a b x) ≡ x
trade_back a b x = grind (arith, nat_tests)

pub trade_injective : (a b x y : ℕ) → trade a b x ≡ trade a b y → x ≡ y
trade_injective a b x y e = grind (arith, nat_tests)

pub trade_self : (a x : ℕ) → trade a a x ≡ x
trade_self a x = grind (arith, nat_tests)

-- different cells stay different
pub trade_apart : (a b : ℕ) (o : Order) (x y : ℕ) → a < o.count → b < o.count → Apart o x y → Apart o (trade a b x) (trade a b y)
trade_apart a b o x y p q d = record {
  a_in = trade_in o.count a b x p q d.a_in;
  b_in = trade_in o.count a b y p q d.b_in;
  differ = λ e. d.differ (trade_injective a b x y e);
}

-- a swap and the same swap again
pub there_and_back : (a b : ℕ) (o q r : Order) → a < o.count → b < o.count → SameOrder (swapped a b o) q → SameOrder (swapped a b q) r → SameOrder o r
there_and_back a b o q r p s one two = record {
  count = two.count ∙ one.count;
  each = λ x y d.
      let n = one.count in
      let dq : Apart q x y = record { a_in = omega (arith, d.a_in); b_in = omega (arith, d.b_in); differ = d.differ } in
      let dt : Apart (swapped a b o) (trade a b x) (trade a b y) =
      let e = trade_apart a b o x y p s d in record { a_in = e.a_in; b_in = e.b_in; differ = e.differ }
      in
      two.each x y (record { a_in = dq.a_in; b_in = dq.b_in; differ = dq.differ })
      ∙ one.each (trade a b x) (trade a b y) dt
      ∙ simp (trade_back a b x, trade_back a b y);
}

-- a table whose entries at a and b were exchanged
module _ (xs ys : List ℕ) (a b : ℕ) (at_a : (d : ℕ) → get_or ys a d ≡ get_or xs b d) (at_b : (d : ℕ) → get_or ys b d ≡ get_or xs a d)
    (elsewhere : (k d : ℕ) → (k ≡ a → ⊥) → (k ≡ b → ⊥) → get_or ys k d ≡ get_or xs k d)
  where
    pub traded : (x : ℕ) → get_or ys x 0 ≡ get_or xs (trade a b x) 0
    traded x = grind (arith, nat_tests, at_a, at_b, elsewhere)

    pub traded_places : (n : ℕ) → a < n → b < n → length ys ≡ length xs → Places n xs → Places n ys
    traded_places n p q same was = record {
      long = same ∙ was.long;
      within = λ x h. let e = traded x in let k = was.within (trade a b x) (trade_in n a b x p q h) in omega arith;
      once = λ x y h.
          trade_injective a b x y
          (was.once (trade a b x) (trade a b y) (trade_in n a b x p q h.0, trade_in n a b y p q h.1, sym (traded x) ∙ h.2 ∙ traded y));
    }
