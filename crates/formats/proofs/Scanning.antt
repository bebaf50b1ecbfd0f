-- One turn of a scan over a list: what the rest of the list tells.
use Rattle.std.proofs.Common.{◌≡◌, ℕ, ◌+◌, ◌-◌, ◌<◌, ◌≤◌, true, false, ltb, List, ◌∷◌, length, get_or, drop, add-one, arith, drop-cons}
use Rattle.std.proofs.lemmas.Bool.Decides.{nat_tests}
use Rattle.formats.specs.Rules.{among, waiting, follows, entry_follows_all}
use Rattle.formats.specs.declared.fields.Entry.{Entry}

-- the list from an index on begins with what stands there
pub from_index : {A : Type 0} (xs : List A) (i : ℕ) (d : A) → i < length xs → drop i xs ≡ get_or xs i d ∷ drop (i + 1) xs
from_index xs i d h = rw (add-one i) (drop-cons xs i d h)

pub among_here : (v u : ℕ) (us : List ℕ) → u ≡ v → among v (u ∷ us) ≡ true
among_here v u us e = grind (arith, nat_tests)

pub waiting_cell : (n parts k : ℕ) (ks : List ℕ) → k < n → waiting n parts (k ∷ ks) ≡ waiting n (parts + 1) ks
waiting_cell n parts k ks h = let e : ltb k n ≡ true = grind (arith, nat_tests) in rw e

pub waiting_join : (n parts k : ℕ) (ks : List ℕ) → n ≤ k → waiting n parts (k ∷ ks) ≡ waiting n (parts - 1) ks
waiting_join n parts k ks h = let e : ltb k n ≡ false = grind (arith, nat_tests) in rw e
