-- Kinds of books, turns and numbers out of a few are read exactly: each has one number.
use Rattle.std.proofs.Common.{◌≡◌, ℕ, Bool, true, false, cond, List, [], ◌∷◌, Some, None, refl, ap, arith}
use Rattle.std.proofs.lemmas.Bool.Decides.{nat_tests}
use Rattle.numbers.specs.Number.{Storable}
use Rattle.formats.specs.declared.fields.BookKind.{BookKind}
use Rattle.formats.specs.declared.fields.BookKind.TheVariants.{SequencePair, Slicing}
use Rattle.formats.specs.declared.fields.Turn.{Turn}
use Rattle.formats.specs.declared.fields.Turn.TheVariants.{AsItIs, Transposed, Flipped, TransposedFlipped}
use Rattle.formats.specs.Choices.{book_of, book_number, turn_of, turn_number}
use Rattle.formats.specs.Reading.{only_if, choice}
use Rattle.roundtrip.proofs.Exact.{Exact, Of, exact_good}
use Rattle.roundtrip.proofs.Fields.{exact_choice}

book_inverse : (v : ℕ) (k : BookKind) → book_of v ≡ Some k → v ≡ book_number k
book_inverse v SequencePair e = grind (arith, nat_tests)
book_inverse v Slicing e = grind (arith, nat_tests)

book_known : (k : BookKind) → Storable (book_number k) × (book_of (book_number k) ≡ Some k)
book_known SequencePair = (omega arith, refl)
book_known Slicing = (omega arith, refl)

pub exact_book : (file : List ℕ) → Exact file (choice book_of file) (Of (λ _. Unit {0}) (λ k. book_number k ∷ []))
exact_book file = exact_good (λ _ _. tt) (λ k _. book_known k) (exact_choice file book_of book_number book_inverse)

turn_inverse : (v : ℕ) (t : Turn) → turn_of v ≡ Some t → v ≡ turn_number t
turn_inverse v AsItIs e = grind (arith, nat_tests)
turn_inverse v Transposed e = grind (arith, nat_tests)
turn_inverse v Flipped e = grind (arith, nat_tests)
turn_inverse v TransposedFlipped e = grind (arith, nat_tests)

turn_known : (t : Turn) → Storable (turn_number t) × (turn_of (turn_number t) ≡ Some t)
turn_known AsItIs = (omega arith, refl)
turn_known Transposed = (omega arith, refl)
turn_known Flipped = (omega arith, refl)
turn_known TransposedFlipped = (omega arith, refl)

pub exact_turn : (file : List ℕ) → Exact file (choice turn_of file) (Of (λ _. Unit {0}) (λ t. turn_number t ∷ []))
exact_turn file = exact_good (λ _ _. tt) (λ t _. turn_known t) (exact_choice file turn_of turn_number turn_inverse)

module _ (lawful : ℕ → Bool) where
  allowed : (v a : ℕ) → only_if lawful v ≡ Some a → (lawful v ≡ true) × (v ≡ a)
  allowed v a e = go (lawful v) e
    where
      go : (b : Bool) → cond b (Some v) None ≡ Some a → (b ≡ true) × (v ≡ a)
      go true e = (refl, cc)
      go false e = absurd cc

  pub exact_allowed : (file : List ℕ) → Exact file (choice (only_if lawful) file) (Of (λ v. (lawful v ≡ true) × Storable v) (λ v. v ∷ []))
  exact_allowed file =
      exact_good (λ v w. ((allowed v v w.1).0, w.0)) (λ v w. (w.1, ap (λ b. cond b (Some v) None) w.0))
      (exact_choice file (only_if lawful) (λ v. v) (λ v a e. (allowed v a e).1))
