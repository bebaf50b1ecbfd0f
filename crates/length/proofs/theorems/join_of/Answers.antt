use Rattle.std.proofs.Common.{◌≡◌, ℕ, ◌+◌, ◌<◌, Bool, true, get_or, sym, subst, inl, inr, ⊎_elim, arith}
use Rattle.std.proofs.lemmas.List.{get_or_read}
use Rattle.std.proofs.lemmas.Bool.{both_ways, cases_eq}
use Rattle.length.specs.Join.{IsJoin}
use Rattle.length.specs.Theorems.{JoinsMade}
use Rattle.length.proofs.Joins.{join_only, join_none, join_more, join_skip, join_with, join_same}
use Rattle.length.proofs.theorems.join_of.Goals as goal

pub loop-x-preserved : goal.loop-x-preserved
loop-x-preserved g c =
    let V = g.row.T.Denot in
    let k = g.T.Length.kind in
    let laws = g.met.T.Length.laws in
    let i = c.loop-x.x-index in
    let f : ℕ → V = λ u. get_or c.args.lengths.now u k.zero in
    let item : c.x-item.result ≡ f i = get_or_read c.args.lengths.now i _ c.loop-x-test.true c.x-item.is _ in
    let most : c.join-most.result ≡ k.join c.loop-x.most (f i) = cc in
    let grown : IsJoin k (λ (u : ℕ). u < i + 1) f (k.join c.loop-x.most (f i)) =
    join_with laws f c.loop-x.most i (omega arith)
    (λ u low. omega arith)
    (λ u low. ⊎_elim (λ (e : u ≡ i). inl e) (λ (ne : u ≡ i → ⊥). inr (omega arith)) (cases_eq u i))
    c.loop-x.invariant
    in
    subst (λ (t : V). IsJoin k (λ (u : ℕ). u < i + 1) f t) (sym most) grown

pub returns : goal.returns
returns g c =
    let V = g.row.T.Denot in
    let k = g.T.Length.kind in
    let laws = g.met.T.Length.laws in
    let made : (chosen : ℕ → Bool) (f : ℕ → V) → JoinsMade k chosen f = λ chosen f. (
    let P : ℕ → Type 0 = λ i. chosen i ≡ true in
    record {
      only = λ n s t. join_only laws s t;
      none = join_none laws P f;
      more = join_more laws P f;
      skip = λ n t so not-here. join_skip laws P f n t so (both_ways (chosen n) not-here);
    }) in
    record { theorem = made; value = join_same (λ u low. omega arith) (λ u low. omega arith) c.loop-x.invariant }
