use Rattle.std.proofs.Common.{ℕ, Some, ap, sym, ◌∙◌, subst₂, arith}
use Rattle.std.proofs.lemmas.Bool.Decides.{not_from_Decides}
use Rattle.group.specs.Arranged.{meaning_of}
use Rattle.placing.specs.Codes.{image_of}
use Rattle.placing.specs.Graphs.{AcrossFrom, left, not_left}
use Rattle.placing.proofs.across.steps_across.Goals as goal

pub image_number-from-requires : goal.image_number-from-requires
image_number-from-requires g c = omega (arith, (c.is_left.ensures.0 c.if-not-is_left.false).apart.a_in, c.args.cells.now.counted)

pub image_number-to-requires : goal.image_number-to-requires
image_number-to-requires g c = omega (arith, (c.is_left.ensures.0 c.if-not-is_left.false).apart.b_in, c.args.cells.now.counted)

pub returns-then-not-is_left : goal.returns-then-not-is_left
returns-then-not-is_left g c = not_left (not_from_Decides c.is_left.result c.is_left.ensures c.if-not-is_left.true)

pub returns : goal.returns
returns g c =
    let m = meaning_of c.args.cells.now in
    let a = c.args.a in
    let b = c.args.b in
    let counted = c.args.cells.now.counted in
    subst₂ (λ (x y : ℕ). AcrossFrom m a b (Some ((b, a), (x, y))))
    (sym (c.image_number-from.ensures.value ∙ ap (λ (n : ℕ). image_of n a (m.mate a)) counted))
    (sym (c.image_number-to.ensures.value ∙ ap (λ (n : ℕ). image_of n b (m.mate b)) counted))
    (left (c.is_left.ensures.0 c.if-not-is_left.false))
