use Rattle.std.proofs.Common.{ℕ, refl, arith, below_more}
use Rattle.placement.specs.Couples.{Forbidden}
use Rattle.group.specs.Group.{sheet_of}
use Rattle.group.proofs.Searching.{forbidden_inside, first_found}
use Rattle.group.proofs.couples.first_forbidden.Goals as goal

pub loop-x-preserved : goal.loop-x-preserved
loop-x-preserved g c u v h =
    let m = sheet_of (g.B.Book.order c.args.book.now) c.args.group.now in
    let P : ℕ → Type 0 = λ w. (z : ℕ) → Forbidden m w z → ⊥ in
    below_more P c.loop-x.x (λ w p z. c.loop-x.invariant w z p)
    (λ z f. c.loop-y.invariant z (let i = (forbidden_inside m c.loop-x.x z f).1 in omega (arith, i, c.count-n.ensures, c.loop-y-test.false)) f)
    u h v

pub returns-then-forbidden : goal.returns-then-forbidden
returns-then-forbidden g c =
    let m = sheet_of (g.B.Book.order c.args.book.now) c.args.group.now in
    first_found m c.loop-x.x c.loop-y.y (c.if-forbidden.ensures.0 refl) c.loop-x.invariant c.loop-y.invariant

pub returns : goal.returns
returns g c x y f =
    let m = sheet_of (g.B.Book.order c.args.book.now) c.args.group.now in
    c.loop-x.invariant x y (let i = (forbidden_inside m x y f).0 in omega (arith, i, c.count-n.ensures, c.loop-x-test.false)) f
