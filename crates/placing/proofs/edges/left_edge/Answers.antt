use Rattle.std.proofs.Common.{◌≡◌, ◌+◌, ◌<◌, ◌≤◌, sym, subst, arith}
use Rattle.length.specs.Kind.{sum_limit}
use Rattle.placing.proofs.EdgeRoom.{width_fits, after_fits, latest_small}
use Rattle.placing.proofs.edges.left_edge.Goals as goal

pub returns-in_err-minus : goal.returns-in_err-minus
returns-in_err-minus g c = rw c.from_residual.ensures (λ room. c.in_err-minus.ensures (width_fits g.met.T.Length.laws room))

pub returns-in_err-latest : goal.returns-in_err-latest
returns-in_err-latest g c =
    let k = g.T.Length.kind in
    let rest = c.in_ok-minus.ensures.1 in
    rw c.from_residual-in_err-latest.ensures
    (λ room. c.in_err-latest.ensures (subst (λ (r : g.row.T.Denot). k.at_most c.args.after r) (sym rest) (after_fits g.met.T.Length.laws room)))

pub returns-in_err-twice : goal.returns-in_err-twice
returns-in_err-twice g c =
    let k = g.T.Length.kind in
    let rest : c.in_ok-minus.field-0 ≡ k.minus c.args.span c.args.width = c.in_ok-minus.ensures.1 in
    let far : c.in_ok-latest.latest ≡ k.minus c.in_ok-minus.field-0 c.args.after = c.in_ok-latest.ensures.1 in
    let whole : c.in_ok-latest.latest ≡ k.minus (k.minus c.args.span c.args.width) c.args.after = cc in
    let over : sum_limit < k.measure c.args.before + k.measure c.in_ok-latest.latest = c.in_err-twice.ensures in
    rw c.from_residual-in_err-twice.ensures
    (λ room.
    let small = latest_small g.met.T.Length.laws room in
    let fine : k.measure c.args.before + k.measure c.in_ok-latest.latest ≤ sum_limit =
    subst (λ (r : g.row.T.Denot). k.measure c.args.before + k.measure r ≤ sum_limit) (sym whole) small
    in
    omega arith)
