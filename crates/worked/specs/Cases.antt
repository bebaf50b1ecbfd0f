-- A worked case: a sheet and calls on it, or a number and its bytes, with what each comes to.
use Rattle.std.specs.Prelude.{◌≡◌, ℕ, ◌*◌, List, [], ◌∷◌, map, length, replicate, Ok, Err}
use Rattle.refusal.specs.declared.fault.ByteFault.TheVariants.{NotShortest}
use Rattle.refusal.specs.declared.fault.SheetFault.TheVariants.{Unplaceable, OddCentre}
use Rattle.book.specs.declared.relation.Relation.{Relation}
use Rattle.book.specs.Order.{Order, Laws}
use Rattle.book.specs.Calls.{asked}
use Rattle.length.specs.Kinds.{plain, plain_kind}
use Rattle.length.specs.declared.Plain.{Plain}
use Rattle.placement.specs.Meaning.{Meaning}
use Rattle.placing.specs.declared.values.Extent.{Extent}
use Rattle.placing.specs.Placing.{Five, five, Fitting, Placing}
use Rattle.sheet.specs.Edits.{Edit, fresh, after, Edited}
use Rattle.numbers.specs.Number.{encode}
use Rattle.numbers.specs.Calls.{number_at}
use Rattle.formats.specs.declared.fields.Turn.{Turn}
use Rattle.formats.specs.Files.{OrderFields}
use Rattle.jobs.specs.Steps.{Means, turned_by}

-- so many cells, the lists of their order, how the order is turned, and the edits that the sheet takes
pub record Sheet : Type 0 where
  pub count : ℕ
  pub order : OrderFields
  pub turn : Turn
  pub edits : List Edit

-- widths and heights (of the sheet as it is turned), and what their placing gives: work list, left edges, bottoms,
-- half-span and depth
pub record Measures : Type 0 where
  pub widths : List ℕ
  pub heights : List ℕ
  pub work : List ℕ
  pub x : List ℕ
  pub y : List ℕ
  pub half : ℕ
  pub depth : ℕ

-- a call on a sheet, and what it comes to
pub data Call : Type 0 where
  -- the first cell lies so to the second
  lies : ℕ → ℕ → Relation → Call
  -- the edit is refused as unplaceable, with this couple
  refuses : Edit → ℕ → ℕ → Call
  -- the placing gives these measures
  places : Measures → Call
  -- the placing of these widths and heights is refused for the odd width of this centred cell
  odd : List ℕ → List ℕ → ℕ → Call

pub data Case : Type 0 where
  -- the sheet takes all its edits, and each call on it then comes to what is told
  sheet : Sheet → List Call → Case
  -- the number has these bytes, and they read as it
  number : ℕ → List ℕ → Case
  -- the bytes begin with no number in shortest form
  misshapen : List ℕ → Case

-- a sheet after edits, one after another
abbrev pub edited : Meaning → List Edit → Meaning
edited m [] = m
edited m (e ∷ es) = edited (after m e) es

-- each edit in turn is done
abbrev pub AllDone : Meaning → List Edit → Type 0
AllDone m [] = Unit {0}
AllDone m (e ∷ es) = Edited m e (after m e) (Ok tt) × AllDone (after m e) es

-- the five lists of a placing of n cells: widths and heights, and lists of zeros to fill
abbrev pub unfilled : ℕ → List ℕ → List ℕ → Five Plain
unfilled n w h = five (map plain w) (map plain h) (replicate (2 * n) (plain 0)) (replicate n (plain 0)) (replicate n (plain 0))

abbrev pub filled : Measures → Five Plain
filled v = five (map plain v.widths) (map plain v.heights) (map plain v.work) (map plain v.x) (map plain v.y)

abbrev pub extent : Measures → Extent Plain
extent v = record { half_span = plain v.half; depth = plain v.depth }

abbrev pub ComesTo : Meaning → Call → Type 0
ComesTo m (lies a b r) = asked m.order a b ≡ Ok r
ComesTo m (refuses e x y) = Edited m e m (Err (Unplaceable x y))
ComesTo m (places v) =
    Fitting m.order.count (filled v) × Placing plain_kind m (unfilled m.order.count v.widths v.heights) (filled v) (Ok (extent v))
ComesTo m (odd w h a) = Placing plain_kind m (unfilled m.order.count w h) (unfilled m.order.count w h) (Err (OddCentre a))

abbrev pub AllCome : Meaning → List Call → Type 0
AllCome m [] = Unit {0}
AllCome m (c ∷ cs) = ComesTo m c × AllCome m cs

-- the sheet with no group, made from an order that is turned first
abbrev pub start : Sheet → Order → Meaning
start s o = fresh (turned_by s.turn o)

-- A case comes out: the lists of its sheet mean a lawful order, on which the edits and the calls come to what is told.
abbrev pub ComesOut : Case → Type 0
ComesOut (sheet s calls) =
    (o : Order) × Laws o × Means s.count s.order o × AllDone (start s o) s.edits × AllCome (edited (start s o) s.edits) calls
ComesOut (number v bytes) = (encode v ≡ bytes) × (number_at bytes 0 ≡ Ok (v, length bytes))
ComesOut (misshapen bytes) = number_at bytes 0 ≡ Err (NotShortest 0)

abbrev pub AllComeOut : List Case → Type 0
AllComeOut [] = Unit {0}
AllComeOut (c ∷ cs) = ComesOut c × AllComeOut cs
