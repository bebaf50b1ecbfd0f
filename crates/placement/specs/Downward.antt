-- The downward part of the rule: descents, bottoms and the depth.
use Rattle.std.specs.Prelude.{ℕ, ◌⊎◌, List, [], ◌∷◌}
use Rattle.book.specs.Order.{AboveOf}
use Rattle.length.specs.Kind.{Kind}
use Rattle.length.specs.Join.{IsJoin}
use Rattle.placement.specs.Walks.{Path}
use Rattle.placement.specs.Meaning.{Meaning, Cell, Mate}

-- what f gives at each entry of a list, added up
abbrev pub total : {V : Type 0} {I : Type 0} → Kind V → (I → V) → List I → V
total k f [] = k.zero
total k f (i ∷ is) = k.plus (f i) (total k f is)

-- b is below a, or below a's mate
abbrev pub Under : Meaning → ℕ → ℕ → Type 0
Under m a b = AboveOf m.order a b ⊎ ((c : ℕ) × Mate m a c × AboveOf m.order c b)

-- a descent from a: a list, perhaps empty, whose first is under a, and each next under the one before
abbrev pub Descent : Meaning → ℕ → List ℕ → Type 0
Descent m = Path (Under m)

-- t is the bottom of a: the join of the height sums of all descents from it
abbrev pub Bottom : {V : Type 0} → Kind V → Meaning → (ℕ → V) → ℕ → V → Type 0
Bottom k m h a t = IsJoin k (Descent m a) (total k h) t

-- t is the depth: the join of all tops
abbrev pub Depth : {V : Type 0} → Kind V → Meaning → (ℕ → V) → (ℕ → V) → V → Type 0
Depth k m h y t = IsJoin k (Cell m) (λ a. k.plus (y a) (h a)) t
