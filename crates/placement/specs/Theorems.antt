-- The theorems, each named by what it says. Those that speak of lengths hold of every kind of length.
use Rattle.std.specs.Prelude.{◌≡◌, ℕ, ◌*◌, ◌≤◌, ◌⊎◌, List, length}
use Rattle.book.specs.Order.{Apart}
use Rattle.length.specs.Kind.{Kind}
use Rattle.placement.specs.Walks.{Loop}
use Rattle.placement.specs.Meaning.{Meaning, Cell, Lawful}
use Rattle.placement.specs.Couples.{Forbidden, Clean}
use Rattle.placement.specs.Placements.{Sizes, Placement, Placeable}
use Rattle.placement.specs.Downward.{Under, Descent}
use Rattle.placement.specs.Across.{Node, Precedes, Chain}
use Rattle.placement.specs.Rule.{Given}

-- some couple is forbidden
abbrev pub Unclean : Meaning → Type 0
Unclean m = (x : ℕ) × (y : ℕ) × Forbidden m x y

-- a loop downward gives a forbidden couple
abbrev pub DownwardLoopForbids : Type 0
DownwardLoopForbids = (m : Meaning) → Lawful m → (us : List ℕ) → Loop (Under m) us → Unclean m

-- a loop across, over cells and images, gives a forbidden couple
abbrev pub LoopAcrossForbids : Type 0
LoopAcrossForbids = (m : Meaning) → Lawful m → (us : List Node) → Loop (Precedes m) us → Unclean m

-- a forbidden couple gives a loop, downward or across
abbrev pub ForbiddenCoupleLoops : Type 0
ForbiddenCoupleLoops =
    (m : Meaning) → Lawful m → Unclean m → ((us : List ℕ) × Loop (Under m) us) ⊎ ((us : List Node) × Loop (Precedes m) us)

-- without a forbidden couple a descent has at most as many entries as there are cells, and a chain at most twice as many
abbrev pub PathsAreShort : Type 0
PathsAreShort =
    (m : Meaning) → Lawful m → Clean m
    → ((a : ℕ) (us : List ℕ) → Descent m a us → length us ≤ m.order.count) × ((us : List Node) → Chain m us → length us ≤ 2 * m.order.count)

-- all values of the rule exist, whatever the widths and heights
abbrev pub ValuesExist : {V : Type 0} → Kind V → Type 0
ValuesExist {V} k =
    (m : Meaning) → Lawful m → Clean m → (w h : ℕ → V)
    → (before : ℕ → V) × (after : ℕ → V) × (x : ℕ → V) × (y : ℕ → V) × (half : V) × (depth : V) × Given k m w h before after x y half depth

-- and there is only one of each
pub record Alike {V : Type 0} (m : Meaning) (before after x y : ℕ → V) (half depth : V) (before' after' x' y' : ℕ → V) (half' depth' : V) : Type 0 where
  pub befores : (a : ℕ) → Cell m a → before a ≡ before' a
  pub afters : (a : ℕ) → Cell m a → after a ≡ after' a
  pub lefts : (a : ℕ) → Cell m a → x a ≡ x' a
  pub bottoms : (a : ℕ) → Cell m a → y a ≡ y' a
  pub halves : half ≡ half'
  pub depths : depth ≡ depth'

abbrev pub ValuesUnique : {V : Type 0} → Kind V → Type 0
ValuesUnique {V} k =
    (m : Meaning) → Lawful m → (w h before after x y : ℕ → V) (half depth : V) (before' after' x' y' : ℕ → V) (half' depth' : V)
    → Given k m w h before after x y half depth
    → Given k m w h before' after' x' y' half' depth'
    → Alike m before after x y half depth before' after' x' y' half' depth'

-- the placement of the rule is a placement
abbrev pub RulePlaces : {V : Type 0} → Kind V → Type 0
RulePlaces {V} k =
    (m : Meaning) → Lawful m → Clean m → (w h before after x y : ℕ → V) (half depth : V)
    → Sizes k m w h
    → Given k m w h before after x y half depth
    → Placement k m w h x y half

-- in any placement two different cells lie apart: one ends where the other begins or before, across or upward
abbrev pub CellsLieApart : {V : Type 0} → Kind V → Type 0
CellsLieApart {V} k =
    (m : Meaning) → Lawful m → (w h x y : ℕ → V) (half : V)
    → Placement k m w h x y half
    → (a b : ℕ) → Apart m.order a b
    → (k.at_most (k.plus (x a) (w a)) (x b) ⊎ k.at_most (k.plus (x b) (w b)) (x a)) ⊎ (k.at_most (k.plus (y a) (h a)) (y b) ⊎ k.at_most (k.plus (y b) (h b)) (y a))

-- no placement of the sheet with those sizes has a lower bottom edge or a smaller half-span
pub record Best {V : Type 0} (k : Kind V) (m : Meaning) (w h y : ℕ → V) (half : V) : Type 0 where
  pub lowest : (x' y' : ℕ → V) (half' : V) → Placement k m w h x' y' half' → (a : ℕ) → Cell m a → k.at_most (y a) (y' a)
  pub narrowest : (x' y' : ℕ → V) (half' : V) → Placement k m w h x' y' half' → k.at_most half half'

abbrev pub RuleIsBest : {V : Type 0} → Kind V → Type 0
RuleIsBest {V} k =
    (m : Meaning) → Lawful m → (w h before after x y : ℕ → V) (half depth : V)
    → Sizes k m w h
    → Given k m w h before after x y half depth
    → Best k m w h y half

-- a forbidden couple leaves no placement, with any lawful sizes
abbrev pub ForbiddenUnplaceable : {V : Type 0} → Kind V → Type 0
ForbiddenUnplaceable {V} k =
    (m : Meaning) → Lawful m → Unclean m → (w h x y : ℕ → V) (half : V)
    → Sizes k m w h
    → Placement k m w h x y half
    → ⊥

-- no couple is forbidden exactly when some lawful whole-number sizes have a placement
abbrev pub CleanExactlyPlaceable : Type 0
CleanExactlyPlaceable = (m : Meaning) → Lawful m → (Clean m → Placeable m) × (Placeable m → Clean m)
