-- The numbers from this one on tell what the whole list does.
use Rattle.std.proofs.Common.{◌≡◌}
use Rattle.formats.specs.Rules.{fits}
use Rattle.formats.specs.Writing.{unplaced}
use Rattle.writing.proofs.Checking.{list_from}
use Rattle.writing.proofs.checks.check_list.Given as goal

abbrev pub invariant-loop-place : goal.invariant-loop-place
invariant-loop-place l = list_from (fits l.kind l.n) (unplaced l.list) l.numbers 0 ≡ list_from (fits l.kind l.n) (unplaced l.list) l.numbers l.place
