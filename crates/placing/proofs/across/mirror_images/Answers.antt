use Rattle.std.proofs.Common.{◌≡◌, ℕ, ◌<◌, length, get_or, Some, None, sym, ap, ◌∙◌, arith}
use Rattle.std.proofs.lemmas.List.{get_or_read}
use Rattle.group.specs.Group.{mate_of}
use Rattle.group.proofs.LawfulSheet.{mate_inside}
use Rattle.placing.specs.Codes.{mirrored}
use Rattle.placing.specs.Sizes.{entries}
use Rattle.placing.proofs.Filling.{filled_and_left}
use Rattle.placing.proofs.across.mirror_images.Goals as goal
use Rattle.placing.proofs.across.mirror_images.Goals.{in-Some, in_default}

pub offset_bounds-values-mate : goal.offset_bounds-values-mate
offset_bounds-values-mate g c = let inside = mate_inside c.args.group.now c.loop-a.a c.in-Some.mate (sym c.in-Some.ensures) in omega (arith, c.requires.values)

pub bounds-values-mate : goal.bounds-values-mate
bounds-values-mate g c = let inside = mate_inside c.args.group.now c.loop-a.a c.in-Some.mate (sym c.in-Some.ensures) in omega (arith, c.requires.values)

pub loop-a-preserved : goal.loop-a-preserved
loop-a-preserved g c =
    let V = g.row.T.Denot in
    let k = g.T.Length.kind in
    let group = c.args.group.now in
    let before = c.args.images.now in
    let images = c.loop-a.images in
    let value = entries k c.args.values.now in
    let a = c.loop-a.a in
    let inside : a < group.count = omega (arith, c.requires.images, c.loop-a-test.true) in
    let room : a < length images = omega (arith, c.loop-a.auto.images, c.loop-a-test.true) in
    let P : ℕ → V → Type 0 = λ b x. x ≡ mirrored (entries k before b) value (mate_of group b) in
    elim c.match-partner.branch [
      | in-Some w ↦
          let mate = w.in-Some.mate in
          let told : mate_of group a ≡ Some mate = sym w.in-Some.ensures in
          let there : mate < group.count = mate_inside group a mate told in
          let read : w.index-values-mate.result ≡ value mate = get_or_read c.args.values.now mate _ (omega (arith, c.requires.values)) w.index-values-mate.is k.zero in
          rw w.images-is (filled_and_left P images before a w.index-values-mate.result k.zero room c.loop-a.invariant (read ∙ sym (ap (mirrored (entries k before a) value) told)))
      | in_default w ↦
          let told : mate_of group a ≡ None = sym w.in_default.ensures in
          let own = get_or images a c.index-images-a.result in
          let same : own ≡ entries k images a = sym c.index-images-a.is ∙ get_or_read images a _ room c.index-images-a.is k.zero in
          rw w.images-is (filled_and_left P images before a own k.zero room c.loop-a.invariant (same ∙ c.loop-a.invariant.1 a (omega arith) ∙ sym (ap (mirrored (entries k before a) value) told)))
    ]

pub returns : goal.returns
returns g c a here = c.loop-a.invariant.0 a (omega (arith, here, c.requires.images, c.loop-a.auto.images, c.loop-a-test.false))
