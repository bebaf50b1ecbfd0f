-- Facts that are decided by a computation: a test, with what it decides.
use Rattle.std.proofs.Common.{◌≡◌, ℕ, zero, suc, ◌<◌, ◌≤◌, Bool, true, false, not, ◌&&◌, ◌||◌, eqb, ltb, leb, ◌⊎◌, Some, None, Decides, Option, sym, refl, subst, arith}
use Rattle.std.proofs.lemmas.Bool.{false≢true, leb-true, le-leb}
use Rattle.std.proofs.lemmas.Bool.Decides.{Decides-like, Decides-not, Decides-and, Decides-or, Decides-ltb, Decides-eqb, Decides-below_and, Decides-below_or}

pub record Test (P : Type 0) : Type 0 where
  pub holds : Bool
  pub decides : Decides holds P

pub so : {P : Type 0} (t : Test P) → t.holds ≡ true → P
so t e = t.decides.0 e

abbrev pub like : {P Q : Type 0} → (P → Q) → (Q → P) → Test P → Test Q
like there back t = record { holds = t.holds; decides = Decides-like t.holds there back t.decides }

pub never_decided : {P : Type 0} → (P → ⊥) → Decides false P
never_decided never = (λ e. absurd (false≢true e), λ p. absurd (never p))

abbrev pub never : {P : Type 0} → (P → ⊥) → Test P
never not_so = record { holds = false; decides = never_decided not_so }

abbrev pub both : {P Q : Type 0} → Test P → Test Q → Test (P × Q)
both t u = record { holds = t.holds && u.holds; decides = Decides-and t.holds u.holds t.decides u.decides }

abbrev pub either : {P Q : Type 0} → Test P → Test Q → Test (P ⊎ Q)
either t u = record { holds = t.holds || u.holds; decides = Decides-or t.holds u.holds t.decides u.decides }

abbrev pub lacks : {P : Type 0} → Test P → Test (P → ⊥)
lacks t = record { holds = not t.holds; decides = Decides-not t.holds t.decides }

pub gives_decided : {P Q : Type 0} (r s : Bool) → Decides r P → Decides s Q → Decides (not r || s) (P → Q)
gives_decided true s p q = (λ e _. q.0 e, λ f. q.1 (f (p.0 refl)))
gives_decided false s p q = (λ e h. absurd (false≢true (p.1 h)), λ f. refl)

abbrev pub gives : {P Q : Type 0} → Test P → Test Q → Test (P → Q)
gives t u = record { holds = not t.holds || u.holds; decides = gives_decided t.holds u.holds t.decides u.decides }

-- Numbers

abbrev pub less : (a b : ℕ) → Test (a < b)
less a b = record { holds = ltb a b; decides = Decides-ltb a b }

abbrev pub at_most : (a b : ℕ) → Test (a ≤ b)
at_most a b = record { holds = leb a b; decides = (leb-true a b, le-leb a b) }

abbrev pub equal : (a b : ℕ) → Test (a ≡ b)
equal a b = record { holds = eqb a b; decides = Decides-eqb a b }

abbrev all_below : (ℕ → Bool) → ℕ → Bool
all_below p zero = true
all_below p (suc n) = p n && all_below p n

abbrev any_below : (ℕ → Bool) → ℕ → Bool
any_below p zero = false
any_below p (suc n) = p n || any_below p n

abbrev pub every : {P : ℕ → Type 0} (n : ℕ) → ((a : ℕ) → Test (P a)) → Test ((a : ℕ) → a < n → P a)
every {P} n t = record {
  holds = all_below (λ a. (t a).holds) n;
  decides = Decides-below_and (λ a. (t a).holds) P (all_below (λ a. (t a).holds)) (λ a. (t a).decides) refl (λ _. refl) n;
}

abbrev pub some : {P : ℕ → Type 0} (n : ℕ) → ((a : ℕ) → Test (P a)) → Test ((a : ℕ) × (a < n) × P a)
some {P} n t = record {
  holds = any_below (λ a. (t a).holds) n;
  decides = Decides-below_or (λ a. (t a).holds) P (any_below (λ a. (t a).holds)) (λ a. (t a).decides) refl (λ _. refl) n;
}

-- What an option names

pub none_names : {b : ℕ} → ◌≡◌ {A = Option ℕ} None (Some b) → ⊥
none_names {b} e = let z : ◌≡◌ {A = ℕ} 0 1 = cc in omega arith

pub named : {c b : ℕ} → ◌≡◌ {A = Option ℕ} (Some c) (Some b) → b ≡ c
named {c} {b} e = cc

abbrev pub named_so : {P : ℕ → Type 0} (o : Option ℕ) → ((b : ℕ) → Test (P b)) → Test ((b : ℕ) × (o ≡ Some b) × P b)
named_so None t = never (λ h. none_names h.1)
named_so {P} (Some c) t = like (λ p. (c, refl, p)) (λ h. subst P (named h.1) h.2) (t c)

abbrev pub named_all : {P : ℕ → Type 0} (o : Option ℕ) → ((b : ℕ) → Test (P b)) → Test ((b : ℕ) → o ≡ Some b → P b)
named_all {P} None t = record { holds = true; decides = (λ _ b e. absurd (none_names e), λ _. refl) }
named_all {P} (Some c) t = like (λ p b e. subst P (sym (named e)) p) (λ all. all c refl) (t c)
