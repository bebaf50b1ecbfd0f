-- What the laws of a length say of its numbers: how many there are, and which make a size.
use Rattle.std.proofs.Common.{◌≡◌, ℕ, suc, Bool, true, false, ◌&&◌, ◌||◌, eqb, ltb, leb, List, [], ◌∷◌, map, length, Decides, sym, refl, ap, ◌∙◌, arith}
use Rattle.std.proofs.lemmas.List.{length-map}
use Rattle.std.proofs.lemmas.Bool.{leb-true, le-leb}
use Rattle.std.proofs.lemmas.Bool.Decides.{Decides-and, Decides-ltb, Decides-like, same_from_decides, nat_tests}
use Rattle.length.specs.Kind.{largest_size}
use Rattle.length.specs.Kinds.{EachLawful}
use Rattle.formats.specs.Rules.{is_size_number}
use Rattle.formats.specs.Writing.{all, each_of, are_long}

-- one answer for all, asked again
once : (a b : Bool) → (a && (b || a)) ≡ a
once true true = refl
once true false = refl
once false b = refl

module _ {V : Type 0} (numbers : V → List ℕ) (count : ℕ) (listed : (x : V) → length (numbers x) ≡ count) (k : ℕ) where
  -- where each length has as many numbers, one count tells of them all
  each_alike : (xs : List V) → each_of k (map numbers xs) ≡ (eqb (length xs) 0 || eqb count k)
  each_alike [] = refl
  each_alike (x ∷ xs) =
      let some : eqb (suc (length xs)) 0 ≡ false = grind (arith, nat_tests) in
      ap (λ (m : ℕ). eqb m k && each_of k (map numbers xs)) (listed x)
      ∙ ap (λ (b : Bool). eqb count k && b) (each_alike xs)
      ∙ once (eqb count k) (eqb (length xs) 0)
      ∙ ap (λ (b : Bool). b || eqb count k) (sym some)

  pub long_by_count : (n : ℕ) (xs : List V) → are_long n k (map numbers xs) ≡ (eqb (length xs) n && (eqb (length xs) 0 || eqb count k))
  long_by_count n xs =
      ap (λ (m : ℕ). eqb m n && each_of k (map numbers xs)) (length-map xs numbers)
      ∙ ap (λ (b : Bool). eqb (length xs) n && b) (each_alike xs)

decides_sizes : (ns : List ℕ) → Decides (all is_size_number ns) (EachLawful ns)
decides_sizes [] = (λ _. tt, λ _. refl)
decides_sizes (v ∷ ns) =
    Decides-and (is_size_number v) (all is_size_number ns)
    (Decides-and (ltb 0 v) (leb v largest_size) (Decides-ltb 0 v) (leb-true v largest_size, le-leb v largest_size))
    (decides_sizes ns)

-- a length's own answer is that of its numbers
pub size_by_numbers : {P : Type 0} (ns : List ℕ) (r : Bool) → Decides r P → (P → EachLawful ns) × (EachLawful ns → P) → all is_size_number ns ≡ r
size_by_numbers ns r d sized = same_from_decides (all is_size_number ns) r (decides_sizes ns) (Decides-like r sized.0 sized.1 d)
