-- Paths and loops of any relation, as lists.
use Rattle.std.specs.Prelude.{List, [], ◌∷◌}

-- from u on, each related to the next: u R x₁, x₁ R x₂, …
abbrev pub Path : {C : Type 0} → (C → C → Type 0) → C → List C → Type 0
Path R u [] = Unit {0}
Path R u (x ∷ xs) = R u x × Path R x xs

-- from u by way of xs to w: u R x₁, x₁ R x₂, …, xₖ R w
abbrev pub Walk : {C : Type 0} → (C → C → Type 0) → C → List C → C → Type 0
Walk R u [] w = R u w
Walk R u (x ∷ xs) w = R u x × Walk R x xs w

-- a list of one or more, each related to the next and the last to the first
abbrev pub Loop : {C : Type 0} → (C → C → Type 0) → List C → Type 0
Loop R [] = ⊥
Loop R (u ∷ xs) = Walk R u xs u
