-- What the exit of a `?` hands on: what is said of a result holds where it holds of the one error that comes out.
use Rattle.std.proofs.Common.{◌≡◌, IsErrAnd, Some, None, Option, Err, Result, sym, refl, ap, ◌∙◌, subst, MatchOption, MatchResult}
use Rattle.std.specs.Option.{ok_or}
use Rattle.std.proofs.lemmas.Result.{err_from_is_err_and}

pub exit_at : {T E : Type 0} (P : Result T E → Type 0) (r : Result T E) (e : E) → IsErrAnd r (λ y. y ≡ e) → P (Err e) → P r
exit_at {T} {E} P r e out p =
    let q = err_from_is_err_and r out in
    subst P (sym (q.1 ∙ ap (λ (i : E). Err i) q.2)) p

pub exit_with : {T E : Type 0} (P : T → Type 0) (Q : E → Type 0) (r : Result T E) (e : E) → IsErrAnd r (λ y. y ≡ e) → Q e → MatchResult r P Q
exit_with {T} {E} P Q = exit_at (λ (o : Result T E). MatchResult o P Q)

-- the same, where the error that comes out is known
pub exit_told : {T E : Type 0} (P : T → Type 0) (Q : E → Type 0) (r : Result T E) (e k : E) → IsErrAnd r (λ y. y ≡ e) → e ≡ k → Q k → MatchResult r P Q
exit_told P Q r e k out is q = exit_with P Q r e out (subst Q (sym is) q)

-- what is said of an option holds of the result that `ok_or` makes of it
pub ok_or_told : {T E : Type 0} (P : T → Type 0) (Q : Type 0) (o : Option T) (e : E) (r : Result T E) → r ≡ ok_or o e → MatchOption o Q P → MatchResult r P (λ f. (f ≡ e) × Q)
ok_or_told P Q None e r is q = subst (λ x. MatchResult x P (λ f. (f ≡ e) × Q)) (sym is) (refl, q)
ok_or_told P Q (Some v) e r is p = subst (λ x. MatchResult x P (λ f. (f ≡ e) × Q)) (sym is) p
