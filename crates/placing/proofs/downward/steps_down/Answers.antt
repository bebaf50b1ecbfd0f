use Rattle.std.proofs.Common.{ℕ, Some, subst, sym}
use Rattle.std.specs.Prelude.{◌≡◌, unwrap_or}
use Rattle.std.proofs.lemmas.Bool.Decides.{not_from_Decides}
use Rattle.group.specs.Arranged.{meaning_of}
use Rattle.placing.specs.Graphs.{DownFrom, above, not_above}
use Rattle.placing.proofs.downward.steps_down.Goals as goal

pub returns-then-not-is_above : goal.returns-then-not-is_above
returns-then-not-is_above g c = not_above (not_from_Decides c.is_above.result c.is_above.ensures c.if-not-is_above.true)

pub returns : goal.returns
returns g c =
    let m = meaning_of c.args.cells.now in
    let a = c.args.a in
    let b = c.args.b in
    let from : c.unwrap_or-mate.result ≡ unwrap_or (m.mate a) a = cc (c.unwrap_or-mate.ensures, c.partner.ensures) in
    subst (λ (x : ℕ). DownFrom m a b (Some ((a, b), (x, b)))) (sym from) (above (c.is_above.ensures.0 c.if-not-is_above.false))
