-- What a placing comes to: a refusal that changes no list, or the placement of the rule.
use Rattle.std.specs.Prelude.{◌≡◌, ℕ, ◌+◌, List, length, Ok, Err, Result}
use Rattle.refusal.specs.declared.fault.SheetFault.{SheetFault}
use Rattle.length.specs.Kind.{Kind}
use Rattle.placement.specs.Meaning.{Meaning}
use Rattle.placement.specs.Placements.{Sizes, Placement}
use Rattle.placement.specs.Rule.{Given}
use Rattle.placement.specs.Theorems.{Best}
use Rattle.placing.specs.declared.values.Extent.{Extent}
use Rattle.placing.specs.Sizes.{Lists, NoLists, Unlawful, entries}

-- the five lists of a placing
pub record Five (V : Type 0) : Type 0 where
  pub widths : List V
  pub heights : List V
  pub work : List V
  pub x : List V
  pub y : List V

abbrev pub five : {V : Type 0} → List V → List V → List V → List V → List V → Five V
five w h work x y = record { widths = w; heights = h; work = work; x = x; y = y }

-- they are as long as n cells ask for
abbrev pub Fitting : {V : Type 0} → ℕ → Five V → Type 0
Fitting n l = Lists n (length l.widths) (length l.heights) (length l.work) (length l.x) (length l.y)

-- and the first that is not
abbrev pub Misfitting : {V : Type 0} → ℕ → Five V → SheetFault → Type 0
Misfitting n l = NoLists n (length l.widths) (length l.heights) (length l.work) (length l.x) (length l.y)

-- the lists have the values of the rule: the work list has in of each cell and, from entry n on, of each image
abbrev pub GivenIn : {V : Type 0} → Kind V → Meaning → Five V → Extent V → Type 0
GivenIn k m l e = Given k m (entries k l.widths) (entries k l.heights) (entries k l.work) (λ a. entries k l.work (m.order.count + a)) (entries k l.x) (entries k l.y) e.half_span e.depth

-- Lists that hold the placement of the rule: they have its values; x, y and the half-span are a placement; and no placement
-- with these sizes has a lower bottom edge or a smaller half-span.
pub record Placed {V : Type 0} (k : Kind V) (m : Meaning) (l : Five V) (e : Extent V) : Type 0 where
  pub given : GivenIn k m l e
  pub placement : Placement k m (entries k l.widths) (entries k l.heights) (entries k l.x) (entries k l.y) e.half_span
  pub best : Best k m (entries k l.widths) (entries k l.heights) (entries k l.y) e.half_span

-- What a placing of the sheet m comes to, from the lists l to the lists r: lists of the right length with lawful sizes are
-- placed, and all others are refused by the first fault, with every list as it was.
pub data Placing {V : Type 0} (k : Kind V) (m : Meaning) (l r : Five V) : Result (Extent V) SheetFault → Type 0 where
  misfitting : {f : SheetFault} → Misfitting m.order.count l f → r ≡ l → Placing k m l r (Err f)
  unlawful : {f : SheetFault} → Fitting m.order.count l → Unlawful k m.mate m.order.count (entries k l.widths) (entries k l.heights) f → r ≡ l → Placing k m l r (Err f)
  placed : {e : Extent V} → Fitting m.order.count l → Sizes k m (entries k l.widths) (entries k l.heights) → Placed k m r e → Placing k m l r (Ok e)
