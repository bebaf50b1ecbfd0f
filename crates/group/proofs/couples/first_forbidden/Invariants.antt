use Rattle.std.proofs.Common.{ℕ, ◌<◌}
use Rattle.placement.specs.Couples.{Forbidden}
use Rattle.group.specs.Group.{sheet_of}
use Rattle.group.proofs.couples.first_forbidden.Given as goal

abbrev pub invariant-loop-x : goal.invariant-loop-x
invariant-loop-x g l = (u v : ℕ) → u < l.x → Forbidden (sheet_of (g.B.Book.order l.book) l.group) u v → ⊥

abbrev pub invariant-loop-y : goal.invariant-loop-y
invariant-loop-y g l = (v : ℕ) → v < l.y → Forbidden (sheet_of (g.B.Book.order l.book) l.group) l.x v → ⊥
