-- How cells lie to one another, and the laws of an order, decided cell by cell.
use Rattle.std.proofs.Common.{◌≡◌, ℕ, ◌<◌, ◌≤◌, cond, eqb, sym, refl, ap, ◌∙◌}
use Rattle.book.specs.declared.relation.Relation.{Relation}
use Rattle.book.specs.declared.relation.Relation.TheVariants.{Left, Right, Above, Below}
use Rattle.book.specs.Order.{Order, Apart, LeftOf, AboveOf, Lie, left, right, above, below, opposite, Laws, most_cells}
use Rattle.book.specs.Orders.{apart_turned}
use Rattle.worked.proofs.Tests.{Test, like, both, lacks, gives, less, at_most, equal, every}

abbrev pub code : Relation → ℕ
code Left = 0
code Right = 1
code Above = 2
code Below = 3

abbrev coded : ℕ → Relation
coded c = cond (eqb c 0) Left (cond (eqb c 1) Right (cond (eqb c 2) Above Below))

coded_back : (r : Relation) → coded (code r) ≡ r
coded_back Left = refl
coded_back Right = refl
coded_back Above = refl
coded_back Below = refl

pub code_one : (r s : Relation) → code r ≡ code s → r ≡ s
code_one r s e = sym (coded_back r) ∙ ap coded e ∙ coded_back s

abbrev pub same? : (r s : Relation) → Test (r ≡ s)
same? r s = like (code_one r s) (ap code) (equal (code r) (code s))

abbrev pub apart? : (o : Order) (a b : ℕ) → Test (Apart o a b)
apart? o a b =
    like (λ h. record { a_in = h.0; b_in = h.1.0; differ = h.1.1 }) (λ d. (d.a_in, (d.b_in, d.differ)))
    (both (less a o.count) (both (less b o.count) (lacks (equal a b))))

abbrev pub left? : (o : Order) (a b : ℕ) → Test (LeftOf o a b)
left? o a b = like (λ h. record { apart = h.0; told = h.1 }) (λ l. (l.apart, l.told)) (both (apart? o a b) (same? (o.rel a b) Left))

abbrev pub above? : (o : Order) (a b : ℕ) → Test (AboveOf o a b)
above? o a b = like (λ h. record { apart = h.0; told = h.1 }) (λ l. (l.apart, l.told)) (both (apart? o a b) (same? (o.rel a b) Above))

-- The laws

abbrev Turns : Order → ℕ → ℕ → Type 0
Turns o a b = Apart o a b → o.rel b a ≡ opposite (o.rel a b)

abbrev Carries : Order → ℕ → ℕ → ℕ → Type 0
Carries o a b c = (LeftOf o a b → LeftOf o b c → LeftOf o a c) × (AboveOf o a b → AboveOf o b c → AboveOf o a c)

abbrev Keeps : Order → Type 0
Keeps o =
    ((1 ≤ o.count) × (o.count ≤ most_cells))
    × (((a : ℕ) → a < o.count → (b : ℕ) → b < o.count → Turns o a b)
    × ((a : ℕ) → a < o.count → (b : ℕ) → b < o.count → (c : ℕ) → c < o.count → Carries o a b c))

abbrev pub keeps? : (o : Order) → Test (Keeps o)
keeps? o =
    both (both (at_most 1 o.count) (at_most o.count most_cells))
    (both
    (every o.count (λ a. every o.count (λ b. gives (apart? o a b) (same? (o.rel b a) (opposite (o.rel a b))))))
    (every o.count (λ a. every o.count (λ b. every o.count (λ c.
    both (gives (left? o a b) (gives (left? o b c) (left? o a c))) (gives (above? o a b) (gives (above? o b c) (above? o a c))))))))

-- a relation that turns round is one of the four
lie_of : (o : Order) (a b : ℕ) → Turns o a b → Apart o a b → (r : Relation) → o.rel a b ≡ r → Lie o a b
lie_of o a b turns d Left e = left (record { apart = d; told = e })
lie_of o a b turns d Right e = right (record { apart = apart_turned d; told = turns d ∙ ap opposite e })
lie_of o a b turns d Above e = above (record { apart = d; told = e })
lie_of o a b turns d Below e = below (record { apart = apart_turned d; told = turns d ∙ ap opposite e })

pub keeps_laws_lem : (o : Order) → Keeps o → Laws o
keeps_laws_lem o (counts, (turns, carries)) = record {
  some = counts.0;
  few = counts.1;
  total = λ a b d. lie_of o a b (turns a d.a_in b d.b_in) d (o.rel a b) refl;
  converse = λ a b d. turns a d.a_in b d.b_in d;
  left_transitive = λ a b c p q. (carries a p.apart.a_in b p.apart.b_in c q.apart.b_in).0 p q;
  above_transitive = λ a b c p q. (carries a p.apart.a_in b p.apart.b_in c q.apart.b_in).1 p q;
}
