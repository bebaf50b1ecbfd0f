-- An answer that may be missing, and what else it says. Assumes nothing.
use Rattle.std.proofs.Common.{Some, None, Option, MatchOption}

pub cases_map : {V : Type 0} {P P' : Type 0} {Q Q' : V → Type 0} (r : Option V) → (P → P') → ((x : V) → Q x → Q' x) → MatchOption r P Q → MatchOption r P' Q'
cases_map None missing there h = missing h
cases_map (Some x) missing there h = there x h
