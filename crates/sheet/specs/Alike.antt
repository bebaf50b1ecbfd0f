-- What a sheet tells of one cell, and when two sheets are alike: the same count, the same relations, and the same cells free, paired and centred.
use Rattle.std.specs.Prelude.{◌≡◌, ℕ, ◌<◌, cond, Some, None, Ok, Err, Option, Result, ◌==◌, nat_lt}
use Rattle.refusal.specs.declared.fault.SheetFault.{SheetFault}
use Rattle.refusal.specs.declared.fault.SheetFault.TheVariants.{NoSuchCell}
use Rattle.book.specs.Order.{Order, Apart, SameOrder}
use Rattle.placement.specs.Meaning.{Meaning, Cell}
use Rattle.sheet.specs.declared.state.State.{State}
use Rattle.sheet.specs.declared.state.State.TheVariants.{Free, Paired, Centred}

-- what a cell is, by its number and its mate
abbrev pub state : ℕ → Option ℕ → State
state a None = Free
state a (Some b) = cond (a == b) Centred Paired

-- where two orders both tell how a lies to b, they tell the same
abbrev pub AgreeOn : Order → Order → ℕ → ℕ → Type 0
AgreeOn o q a b = Apart o a b → Apart q a b → q.rel a b ≡ o.rel a b

-- two sheets tell the same of a: what it is, and how it lies to each of n cells
pub record AlikeAt (m p : Meaning) (n a : ℕ) : Type 0 where
  pub states : state a (p.mate a) ≡ state a (m.mate a)
  pub each : (b : ℕ) → b < n → AgreeOn m.order p.order a b

pub record AlikeSheets (m p : Meaning) : Type 0 where
  pub order : SameOrder m.order p.order
  pub states : (a : ℕ) → Cell m a → state a (p.mate a) ≡ state a (m.mate a)

-- the answer about a's mate: no such cell, or the mate, or none
abbrev pub partner_of : Meaning → ℕ → Result (Option ℕ) SheetFault
partner_of m a = cond (nat_lt a m.order.count) (Ok (m.mate a)) (Err (NoSuchCell a))
