use Rattle.std.proofs.Common.{◌≡◌, ℕ, ◌<◌, ◌≤◌}
use Rattle.group.specs.Group.{mate_of}
use Rattle.placing.specs.Codes.{mirrored}
use Rattle.placing.specs.Sizes.{entries}
use Rattle.placing.proofs.across.mirror_images.Given as goal

abbrev pub invariant-loop-a : goal.invariant-loop-a
invariant-loop-a g l =
    let k = g.T.Length.kind in
    ((a : ℕ) → a < l.a → entries k l.images a ≡ mirrored (entries k l.initial.images a) (entries k l.values) (mate_of l.group a))
    × ((a : ℕ) → l.a ≤ a → entries k l.images a ≡ entries k l.initial.images a)
