-- Which fields are lawful, by the fields before them.
use Rattle.std.specs.Prelude.{ℕ, ◌+◌, ◌-◌, Bool, cond, not, ◌&&◌, ◌||◌, List, ◌==◌, nat_le, nat_lt, fold}
use Rattle.std.specs.List.{list_any, list_all}
use Rattle.book.specs.Order.{most_cells}
use Rattle.length.specs.Kind.{largest_size}
use Rattle.formats.specs.declared.fields.BookKind.{BookKind}
use Rattle.formats.specs.declared.fields.BookKind.TheVariants.{SequencePair, Slicing}
use Rattle.formats.specs.declared.fields.Entry.{Entry}

-- a number of cells: 1 to 64
abbrev pub is_cell_count : ℕ → Bool
is_cell_count n = nat_lt 0 n && nat_le n most_cells

-- how many numbers a length takes: 1 or 3
abbrev pub is_processes : ℕ → Bool
is_processes k = k == 1 || k == 3

-- a number that a width or a height may have: 1 to 1,048,576
abbrev pub is_size_number : ℕ → Bool
is_size_number v = nat_lt 0 v && nat_le v largest_size

-- v is one of these
abbrev pub among : ℕ → List ℕ → Bool
among v us = list_any (λ u. u == v) us

-- how many parts wait after these numbers of an expression, where so many waited before: a cell is one more, a join one fewer
abbrev pub waiting : ℕ → ℕ → List ℕ → ℕ
waiting n parts ks = fold (λ ps k. cond (nat_lt k n) (ps + 1) (ps - 1)) parts ks

-- v may follow the numbers of a row: a cell that is not there yet
abbrev pub fits_row : ℕ → List ℕ → ℕ → Bool
fits_row n before v = nat_lt v n && not (among v before)

-- v may follow the numbers of an expression: a cell that is not there yet, or n or n + 1 where two parts wait
abbrev pub fits_expression : ℕ → List ℕ → ℕ → Bool
fits_expression n before v = cond (nat_lt v n) (not (among v before)) (nat_le v (n + 1) && nat_le 2 (waiting n 0 before))

abbrev pub fits : BookKind → ℕ → List ℕ → ℕ → Bool
fits SequencePair n before v = fits_row n before v
fits Slicing n before v = fits_expression n before v

-- the entry has the cell
abbrev pub names : Entry → ℕ → Bool
names e c = e.first == c || e.second == c

-- an entry may follow e: its first cell is greater, and e has neither of its cells
abbrev pub follows : Entry → Entry → Bool
follows e next = nat_lt e.first next.first && not (names e next.first) && not (names e next.second)

abbrev pub entry_follows_all : List Entry → Entry → Bool
entry_follows_all es next = list_all (λ e. follows e next) es

-- an entry of n cells may follow those before it: the lower cell first, and after each entry before
abbrev pub entry_fits : ℕ → List Entry → Entry → Bool
entry_fits n before e = nat_le e.first e.second && nat_lt e.second n && entry_follows_all before e
