-- The first cell that differs from its mate is the lower of the two; past it every cell agrees with its mate.
use Rattle.std.proofs.Common.{ℕ, ◌<◌, sym, ◌∙◌, subst, arith, below_more}
use Rattle.std.proofs.lemmas.Bool.Decides.{not_from_Decides}
use Rattle.group.specs.Group.{mate_of}
use Rattle.group.proofs.LawfulSheet.{mate_inside}
use Rattle.group.proofs.Tables.{same_some}
use Rattle.placing.specs.Sizes.{entries, Agree, Matched, pair_differs}
use Rattle.placing.proofs.LawfulSizes.{lower_of_pair}
use Rattle.placing.proofs.sizes.check_pairs.Goals as goal

pub agree-requires : goal.agree-requires
agree-requires g c =
    let group = c.args.group.now in
    let cell : c.loop-cell.cell < group.count = omega (arith, c.count-cell-end.ensures, c.loop-cell-test.true) in
    let mate : c.in-Some.mate < group.count = mate_inside group c.loop-cell.cell c.in-Some.mate (sym c.partner.ensures ∙ c.in-Some.is) in
    let wide = c.requires.widths in
    let high = c.requires.heights in
    record { widths = (omega arith, omega arith); heights = (omega arith, omega arith) }

pub returns-then-not-agree : goal.returns-then-not-agree
returns-then-not-agree g c sized =
    let group = c.args.group.now in
    let k = g.T.Length.kind in
    let w = entries k c.args.widths.now in
    let h = entries k c.args.heights.now in
    let cell = c.loop-cell.cell in
    let mate = c.in-Some.mate in
    let told = sym c.partner.ensures ∙ c.in-Some.is in
    let back = group.returned cell mate told in
    let differ = not_from_Decides c.agree.result c.agree.ensures c.if-not-agree.true in
    pair_differs (lower_of_pair (mate_of group) w h cell mate back c.loop-cell.invariant differ) (group.inside mate cell back) sized c.loop-cell.invariant told differ

pub loop-cell-preserved : goal.loop-cell-preserved
loop-cell-preserved g c =
    let k = g.T.Length.kind in
    let w = entries k c.args.widths.now in
    let h = entries k c.args.heights.now in
    let P : ℕ → Type 0 = Matched (mate_of c.args.group.now) w h in
    below_more P c.loop-cell.cell c.loop-cell.invariant
    (λ b told. subst (λ (d : ℕ). Agree w h c.loop-cell.cell d) (same_some (sym c.partner.ensures ∙ c.in-Some.is) told) (c.agree.ensures.0 c.if-not-agree.false))

pub loop-cell-preserved-in_default : goal.loop-cell-preserved-in_default
loop-cell-preserved-in_default g c =
    let k = g.T.Length.kind in
    let P : ℕ → Type 0 = Matched (mate_of c.args.group.now) (entries k c.args.widths.now) (entries k c.args.heights.now) in
    below_more P c.loop-cell.cell c.loop-cell.invariant (λ b told. absurd (c.in_default.not-Some b (c.partner.ensures ∙ told)))

pub returns : goal.returns
returns g c a low = c.loop-cell.invariant a (omega (arith, low, c.count-cell-end.ensures, c.loop-cell-test.false))
