-- Each refusal by its check; the placement by the theorems about the rule; and a clean sheet comes to no other end.
use Rattle.std.proofs.Common.{ℕ, sym, refl, ◌∙◌, subst}
use Rattle.book.proofs.Exits.{exit_at}
use Rattle.group.specs.Group.{sheet_of}
use Rattle.group.proofs.LawfulSheet.{lawful_sheet}
use Rattle.placing.specs.Placing.{five, Misfitting, Fitting, Placing, misfitting, unlawful, placed}
use Rattle.placing.specs.Sizes.{Unlawful, entries}
use Rattle.placing.proofs.placed.place.Goals as goal
use Rattle.placing.proofs.placed.place.Goals.{then-count-n+in_default, else-count-n}

pub returns-in_err-check_lists : goal.returns-in_err-check_lists
returns-in_err-check_lists g c counts clean =
    let k = g.T.Length.kind in
    let m = sheet_of (g.B.Book.order c.args.book.now) c.args.group.now in
    let l = five c.args.widths.now c.args.heights.now c.args.work.now c.args.x.now c.args.y.now in
    let f = c.in_err-check_lists.field-0.0 in
    exit_at (Placing k m l l) c.from_residual.result f c.from_residual.ensures.1
    (misfitting (subst (λ (n : ℕ). Misfitting n l f) (c.count-n.ensures ∙ counts) c.in_err-check_lists.ensures) refl)

pub returns-in_err-check_sizes : goal.returns-in_err-check_sizes
returns-in_err-check_sizes g c counts clean =
    let k = g.T.Length.kind in
    let m = sheet_of (g.B.Book.order c.args.book.now) c.args.group.now in
    let l = five c.args.widths.now c.args.heights.now c.args.work.now c.args.x.now c.args.y.now in
    let f = c.in_err-check_sizes.field-0.0 in
    exit_at (Placing k m l l) c.from_residual-in_err-check_sizes.result f c.from_residual-in_err-check_sizes.ensures.1
    (unlawful (subst (λ (n : ℕ). Fitting n l) (c.count-n.ensures ∙ counts) c.in_ok-check_lists.ensures)
    (subst (λ (n : ℕ). Unlawful k m.mate n (entries k l.widths) (entries k l.heights) f) counts c.in_err-check_sizes.ensures) refl)

pub returns-in-Some : goal.returns-in-Some
returns-in-Some g c counts clean =
    let o = g.B.Book.order c.args.book.now in
    let m = sheet_of o c.args.group.now in
    let l = five c.args.widths.now c.args.heights.now c.args.work.now c.args.x.now c.args.y.now in
    let lawful = lawful_sheet o c.args.group.now (g.met.B.Book.lawful c.args.book.now) counts in
    let sizes = c.in_ok-check_sizes.ensures o (sym counts) in
    placed (subst (λ (n : ℕ). Fitting n l) (c.count-n.ensures ∙ counts) c.in_ok-check_lists.ensures) sizes
    (record {
      given = c.in-Some.ensures;
      placement = c.rule_places.ensures m lawful clean _ _ _ _ _ _ _ _ sizes c.in-Some.ensures;
      best = c.rule_is_best.ensures m lawful _ _ _ _ _ _ _ _ sizes c.in-Some.ensures;
    })

pub returns : goal.returns
returns g c counts clean =
    let o = g.B.Book.order c.args.book.now in
    absurd (elim c.if-count-n.branch [
      | then-count-n+in_default w ↦ w.in_default.ensures clean (c.in_ok-check_sizes.ensures o (sym counts))
      | else-count-n w ↦ w.if-count-n.false (c.count.ensures ∙ sym counts ∙ sym c.count-n.ensures)
    ])
