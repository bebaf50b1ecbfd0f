-- What reading a file comes to, field by field: the first fault in file order, or what the file says.
use Rattle.std.specs.Prelude.{ℕ, zero, suc, ◌-◌, ◌*◌, Bool, true, cond, List, [], ◌∷◌, ◌++◌, length, Some, None, Ok, Err, Option, Result, ◌==◌}
use Rattle.refusal.specs.declared.fault.ByteFault.{ByteFault}
use Rattle.refusal.specs.declared.fault.FieldFault.{FieldFault}
use Rattle.refusal.specs.declared.fault.FieldFault.TheVariants as fault
use Rattle.refusal.specs.declared.fault.Side.{Side}
use Rattle.refusal.specs.declared.fault.Side.TheVariants.{Width, Height}
use Rattle.numbers.specs.Calls.{number_at}
use Rattle.formats.specs.declared.fields.BookKind.{BookKind}
use Rattle.formats.specs.declared.fields.BookKind.TheVariants.{SequencePair, Slicing}
use Rattle.formats.specs.declared.fields.Turn.{Turn}
use Rattle.formats.specs.declared.fields.Entry.{Entry}
use Rattle.formats.specs.Choices.{book_of, turn_of}
use Rattle.formats.specs.Rules.{is_cell_count, is_processes, is_size_number, fits, entry_fits}
use Rattle.formats.specs.Files.{OrderFields, rows, expression, JobFields, PlacementFields}

-- reading at a place of a file comes to a value and the place behind it, or to a fault
abbrev pub Reading : Type 0 → Type 0
Reading A = Result (A × ℕ) FieldFault

-- one field after another: the first fault is the fault of both
abbrev pub and_then : {A B : Type 0} → Reading A → (A → ℕ → Reading B) → Reading B
and_then (Ok x) go = go x.0 x.1
and_then (Err f) go = Err f

-- a number, with no rule of its own
abbrev pub in_field : Result (ℕ × ℕ) ByteFault → Reading ℕ
in_field (Ok x) = Ok x
in_field (Err f) = Err (fault.Bytes f)

abbrev pub number : List ℕ → ℕ → Reading ℕ
number file p = in_field (number_at file p)

-- a number that its rule allows; else it is told by its place and what it is
abbrev pub field : (ℕ → Bool) → (ℕ → ℕ → FieldFault) → List ℕ → ℕ → Reading ℕ
field lawful told file p = and_then (number file p) (λ v q. cond (lawful v) (Ok (v, q)) (Err (told p v)))

-- a number that stands for something
abbrev pub chosen : {A : Type 0} → ℕ → ℕ → Option A → Reading A
chosen p q (Some a) = Ok (a, q)
chosen p q None = Err (fault.UnknownChoice p)

abbrev pub choice : {A : Type 0} → (ℕ → Option A) → List ℕ → ℕ → Reading A
choice known file p = and_then (number file p) (λ v q. chosen p q (known v))

-- the number itself, if it is lawful
abbrev pub only_if : (ℕ → Bool) → ℕ → Option ℕ
only_if lawful v = cond (lawful v) (Some v) None

-- so many numbers more, each judged by those before it and told by its index and its place
abbrev pub list : (List ℕ → ℕ → Bool) → (ℕ → ℕ → FieldFault) → ℕ → List ℕ → List ℕ → ℕ → Reading (List ℕ)
list rule told zero before file p = Ok (before, p)
list rule told (suc k) before file p =
    and_then (field (rule before) (λ at _. told (length before) at) file p) (λ v q. list rule told k (before ++ (v ∷ [])) file q)

-- the fault of a number at index i of list l of the order
abbrev pub misordered : ℕ → ℕ → ℕ → FieldFault
misordered l i at = fault.Order at l i

-- the number of a row or an expression that comes after these
abbrev pub order_number_at : BookKind → ℕ → ℕ → List ℕ → List ℕ → ℕ → Reading ℕ
order_number_at kind n l before file p = field (fits kind n before) (λ at _. misordered l (length before) at) file p

abbrev pub order_list_at : BookKind → ℕ → ℕ → ℕ → List ℕ → ℕ → Reading (List ℕ)
order_list_at kind n l k file p = list (fits kind n) (misordered l) k [] file p

-- the rows of n numbers, or the expression of 2n − 1
abbrev pub order : BookKind → ℕ → List ℕ → ℕ → Reading OrderFields
order SequencePair n file p =
    and_then (order_list_at SequencePair n 1 n file p) (λ first q.
    and_then (order_list_at SequencePair n 2 n file q) (λ second r.
    Ok (rows first second, r)))
order Slicing n file p = and_then (order_list_at Slicing n 1 (2 * n - 1) file p) (λ e q. Ok (expression e, q))

-- one number of a length, told by the cell and the side
abbrev pub length_number_at : (ℕ → Bool) → ℕ → Side → List ℕ → ℕ → Reading ℕ
length_number_at lawful cell side file p = field lawful (λ at _. fault.NotASize at cell side) file p

-- the rule of each number of a length, whatever stands before it, and its fault
abbrev pub alone : (ℕ → Bool) → List ℕ → ℕ → Bool
alone lawful _ v = lawful v

abbrev pub not_a_size : ℕ → Side → ℕ → ℕ → FieldFault
not_a_size cell side _ at = fault.NotASize at cell side

-- a length of k numbers, each lawful
abbrev pub one_length : (ℕ → Bool) → ℕ → ℕ → Side → List ℕ → ℕ → Reading (List ℕ)
one_length lawful k cell side file p = list (alone lawful) (not_a_size cell side) k [] file p

-- two lists of lengths, which grow in step
pub record Columns : Type 0 where
  pub firsts : List (List ℕ)
  pub seconds : List (List ℕ)

abbrev pub one_more : Columns → List ℕ → List ℕ → Columns
one_more c u v = record { firsts = c.firsts ++ (u ∷ []); seconds = c.seconds ++ (v ∷ []) }

abbrev pub no_columns : Columns
no_columns = record { firsts = []; seconds = [] }

-- two lengths for each of so many cells more
abbrev pub columns : (ℕ → Bool) → ℕ → ℕ → Columns → List ℕ → ℕ → Reading Columns
columns lawful k zero c file p = Ok (c, p)
columns lawful k (suc m) c file p =
    and_then (one_length lawful k (length c.firsts) Width file p) (λ u q.
    and_then (one_length lawful k (length c.firsts) Height file q) (λ v r.
    columns lawful k m (one_more c u v) file r))

abbrev pub entry_of : ℕ → ℕ → Entry
entry_of a b = record { first = a; second = b }

-- two numbers, judged together
abbrev pub entry : ℕ → List Entry → List ℕ → ℕ → Reading Entry
entry n before file p =
    and_then (number file p) (λ a q.
    and_then (number file q) (λ b r.
    cond (entry_fits n before (entry_of a b)) (Ok (entry_of a b, r)) (Err (fault.GroupEntry p))))

-- so many entries more
abbrev pub entries : ℕ → ℕ → List Entry → List ℕ → ℕ → Reading (List Entry)
entries n zero before file p = Ok (before, p)
entries n (suc k) before file p = and_then (entry n before file p) (λ e q. entries n k (before ++ (e ∷ [])) file q)

-- nothing follows the last field, which ends before place p
abbrev pub ended : List ℕ → ℕ → Result (Unit {0}) FieldFault
ended file p = cond (p == length file) (Ok tt) (Err (fault.TrailingBytes p))

abbrev pub unless : {A : Type 0} → Result (Unit {0}) FieldFault → A → Result A FieldFault
unless (Ok _) a = Ok a
unless (Err f) a = Err f

abbrev pub at_end : {A : Type 0} → List ℕ → Reading A → Result A FieldFault
at_end file (Ok x) = unless (ended file x.1) x.0
at_end file (Err f) = Err f

-- what a job says up to its sizes
pub record Head : Type 0 where
  pub count : ℕ
  pub order : OrderFields
  pub turn : Turn
  pub processes : ℕ

abbrev pub head : List ℕ → ℕ → Reading Head
head file start =
    and_then (choice book_of file start) (λ kind p.
    and_then (field is_cell_count fault.CellCount file p) (λ n q.
    and_then (order kind n file q) (λ o r.
    and_then (choice turn_of file r) (λ t s.
    and_then (choice (only_if is_processes) file s) (λ k e.
    Ok (record { count = n; order = o; turn = t; processes = k }, e))))))

abbrev pub job_of : Head → Columns → List Entry → JobFields
job_of h c es = record { count = h.count; order = h.order; turn = h.turn; processes = h.processes; widths = c.firsts; heights = c.seconds; entries = es }

-- the sizes and the entries
abbrev pub body : Head → List ℕ → ℕ → Reading JobFields
body h file p =
    and_then (columns is_size_number h.processes h.count no_columns file p) (λ c q.
    and_then (number file q) (λ k r.
    and_then (entries h.count k [] file r) (λ es e.
    Ok (job_of h c es, e))))

abbrev pub read_job_of : List ℕ → Result JobFields FieldFault
read_job_of file = at_end file (and_then (head file 0) (λ h p. body h file p))

-- a placement's lengths have no rule
abbrev pub any : ℕ → Bool
any v = true

-- the mark of a placement is 0
abbrev pub is_mark : ℕ → Bool
is_mark v = v == 0

pub record PlacementHead : Type 0 where
  pub count : ℕ
  pub processes : ℕ

abbrev pub placement_head_of : List ℕ → ℕ → Reading PlacementHead
placement_head_of file start =
    and_then (choice (only_if is_mark) file start) (λ m p.
    and_then (field is_cell_count fault.CellCount file p) (λ n q.
    and_then (choice (only_if is_processes) file q) (λ k r.
    Ok (record { count = n; processes = k }, r))))

abbrev pub placement_of : PlacementHead → List ℕ → List ℕ → Columns → PlacementFields
placement_of h half depth c = record { count = h.count; processes = h.processes; half_span = half; depth = depth; x = c.firsts; y = c.seconds }

abbrev pub placement_body_at : PlacementHead → List ℕ → ℕ → Reading PlacementFields
placement_body_at h file p =
    and_then (one_length any h.processes 0 Width file p) (λ half q.
    and_then (one_length any h.processes 0 Height file q) (λ depth r.
    and_then (columns any h.processes h.count no_columns file r) (λ c e.
    Ok (placement_of h half depth c, e))))

abbrev pub read_placement_of : List ℕ → Result PlacementFields FieldFault
read_placement_of file = at_end file (and_then (placement_head_of file 0) (λ h p. placement_body_at h file p))
