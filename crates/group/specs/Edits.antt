-- What the edits of a group make of the mates, and when they are refused.
use Rattle.std.specs.Prelude.{ℕ, Bool, false, cond, is_some, Some, None, Ok, Err, Option, Result, ◌==◌}
use Rattle.refusal.specs.declared.fault.SheetFault.{SheetFault}
use Rattle.book.specs.Calls.{of_cell}
use Rattle.refusal.specs.declared.fault.SheetFault.TheVariants.{SameCell, AlreadyGrouped, NotGrouped}

abbrev pub Mates : Type 0
Mates = ℕ → Option ℕ

-- no cell has a mate
abbrev pub nobody : Mates
nobody _ = None

-- a and b are mates of each other
abbrev pub paired : ℕ → ℕ → Mates → Mates
paired a b mate x = cond (x == a) (Some b) (cond (x == b) (Some a) (mate x))

-- a is its own mate
abbrev pub centred : ℕ → Mates → Mates
centred a mate x = cond (x == a) (Some a) (mate x)

-- x is the cell that an answer names
abbrev pub names : Option ℕ → ℕ → Bool
names (Some b) x = x == b
names None x = false

-- a and its mate are free
abbrev pub freed : ℕ → Mates → Mates
freed a mate x = cond (x == a) None (cond (names (mate a) x) None (mate x))

-- a is in the group
abbrev pub grouped : Mates → ℕ → Bool
grouped mate a = is_some (mate a)

-- a cell of the group is refused, and else the rest decides
abbrev pub free_in : Mates → ℕ → Result (Unit {0}) SheetFault → Result (Unit {0}) SheetFault
free_in mate a rest = cond (grouped mate a) (Err (AlreadyGrouped a)) rest

-- two cells of n, different, and free both; the first check that fails is told
abbrev pub pair_check : ℕ → Mates → ℕ → ℕ → Result (Unit {0}) SheetFault
pair_check n mate a b = of_cell n a (of_cell n b (cond (a == b) (Err (SameCell a)) (free_in mate a (free_in mate b (Ok tt)))))

-- a free cell of n
abbrev pub centre_check : ℕ → Mates → ℕ → Result (Unit {0}) SheetFault
centre_check n mate a = of_cell n a (free_in mate a (Ok tt))

-- a cell of n that is in the group
abbrev pub release_check : ℕ → Mates → ℕ → Result (Unit {0}) SheetFault
release_check n mate a = of_cell n a (cond (grouped mate a) (Ok tt) (Err (NotGrouped a)))
