-- Entries of a list: what all of them satisfy, which there are, and whether one stands twice.
use Rattle.std.proofs.Common.{◌≡◌, ◌⊎◌, List, [], ◌∷◌, ◌++◌, map, ap, subst, inl, inr}

abbrev pub All : {C : Type 0} → (C → Type 0) → List C → Type 0
All S [] = Unit {0}
All S (x ∷ xs) = S x × All S xs

abbrev pub Entry : {C : Type 0} → C → List C → Type 0
Entry b [] = ⊥
Entry b (x ∷ xs) = (x ≡ b) ⊎ Entry b xs

abbrev pub Repeats : {C : Type 0} → List C → Type 0
Repeats [] = ⊥
Repeats (x ∷ xs) = Entry x xs ⊎ Repeats xs

pub all_append : {C : Type 0} (S : C → Type 0) (xs ys : List C) → All S xs → All S ys → All S (xs ++ ys)
all_append S [] ys h k = k
all_append S (x ∷ xs) ys h k = (h.0, all_append S xs ys h.1 k)

pub all_map : {C : Type 0} (S T : C → Type 0) → ((x : C) → S x → T x) → (xs : List C) → All S xs → All T xs
all_map S T f [] h = tt
all_map S T f (x ∷ xs) h = (f x h.0, all_map S T f xs h.1)

pub entry_has : {C : Type 0} (P : C → Type 0) (xs : List C) (x : C) → All P xs → Entry x xs → P x
entry_has P [] x h i = absurd i
entry_has P (y ∷ ys) x h (inl e) = subst P e h.0
entry_has P (y ∷ ys) x h (inr i) = entry_has P ys x h.1 i

pub entry_map : {C D : Type 0} (f : C → D) (x : C) (xs : List C) → Entry x xs → Entry (f x) (map f xs)
entry_map f x [] h = h
entry_map f x (y ∷ ys) (inl e) = inl (ap f e)
entry_map f x (y ∷ ys) (inr i) = inr (entry_map f x ys i)

pub entry_front : {C : Type 0} (x : C) (xs ys : List C) → Entry x xs → Entry x (xs ++ ys)
entry_front x [] ys h = absurd h
entry_front x (z ∷ zs) ys (inl e) = inl e
entry_front x (z ∷ zs) ys (inr i) = inr (entry_front x zs ys i)

pub entry_back : {C : Type 0} (x : C) (xs ys : List C) → Entry x ys → Entry x (xs ++ ys)
entry_back x [] ys h = h
entry_back x (z ∷ zs) ys h = inr (entry_back x zs ys h)
