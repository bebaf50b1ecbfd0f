use Rattle.std.proofs.Common.{◌<◌, ◌≡◌, ◌⊎◌, subst, inl, inr, arith}
use Rattle.std.proofs.lemmas.Bool.{cases_eq}
use Rattle.placing.proofs.Giving.{given_none, given_like, given_linked, given_nothing}
use Rattle.placing.proofs.graphs.graph_of.Goals as goal
use Rattle.placing.proofs.graphs.graph_of.Goals.{in-Some, in_default}

pub loop-a-init : goal.loop-a-init
loop-a-init g c = given_none c.in_ok-graph.ensures.1 (λ a b s. omega (arith, s.0))

pub loop-b-init : goal.loop-b-init
loop-b-init g c = given_like (λ a b s. inl s) (λ a b s. elim s [ inl s ↦ s | inr none ↦ omega (arith, none.1) ]) c.loop-a.invariant

pub loop-b-preserved : goal.loop-b-preserved
loop-b-preserved g c =
    let a = c.loop-a.a in
    let b = c.loop-b.b in
    let gives = goal.F-post g c.args.steps a b in
    given_like {C = λ x y. (((x < a) × (y < c.args.n)) ⊎ ((x ≡ a) × (y < b))) ⊎ ((x ≡ a) × (y ≡ b))}
    (λ x y s. elim s [ inl (inl s) ↦ inl s | inl (inr s) ↦ inr (s.0, omega (arith, s.1)) | inr s ↦ inr (s.0, omega (arith, s.1)) ])
    (λ x y s. elim s [ inl s ↦ inl (inl s) | inr s ↦ elim (cases_eq y b) [ inl e ↦ inr (s.0, e) | inr ne ↦ inl (inr (s.0, omega (arith, s.1, ne))) ] ])
    (elim c.match-steps.branch [
      | in-Some w ↦
          let at = w.in-Some in
          rw w.graph-is (given_linked a b at.v at.u at.x at.y (subst gives at.is c.steps.ensures) w.link.ensures w.link-in-Some.ensures c.loop-b.invariant)
      | in_default w ↦ rw w.graph-is (given_nothing a b (subst gives w.in_default.is c.steps.ensures) c.loop-b.invariant)
    ])

pub loop-a-preserved : goal.loop-a-preserved
loop-a-preserved g c =
    given_like
    (λ a b s. elim s [ inl s ↦ (omega (arith, s.0), s.1) | inr s ↦ (omega (arith, s.0), omega (arith, s.1, c.loop-b.auto.b-end, c.loop-b-test.false)) ])
    (λ a b s. elim (cases_eq a c.loop-a.a) [ inl e ↦ inr (e, omega (arith, s.1, c.loop-b-test.false)) | inr ne ↦ inl (omega (arith, s.0, ne), s.1) ])
    c.loop-b.invariant

pub returns : goal.returns
returns g c =
    given_like
    (λ a b s. (omega (arith, s.0, c.loop-a.auto.a-end), s.1))
    (λ a b s. (omega (arith, s.0, c.loop-a-test.false), s.1))
    c.loop-a.invariant
