-- Bytes that stand in a file, joined and split; and bytes that are written, in one go or in two.
use Rattle.std.proofs.Common.{◌≡◌, ℕ, suc, ◌+◌, ◌≤◌, List, [], ◌∷◌, ◌++◌, length, drop, set, sym, refl, ap, ◌∙◌, arith}
use Rattle.std.proofs.lemmas.List.{append_assoc, append-nil, length-append, length-set, drop-drop, drop_at, drop_all}
use Rattle.numbers.specs.Stored.{Stands, put}

pub stands_join : {file : List ℕ} {p q r : ℕ} {bs cs : List ℕ} → Stands file p bs q → Stands file q cs r → Stands file p (bs ++ cs) r
stands_join {file} {p} {q} {r} {bs} {cs} s t =
    record {
      here = s.here ∙ ap (λ x. bs ++ x) t.here ∙ sym (append_assoc bs cs (drop r file));
      long = simp length-append (omega arith);
      inside = t.inside;
    }

pub stands_split : {file : List ℕ} {p r : ℕ} (bs cs : List ℕ) → Stands file p (bs ++ cs) r → Stands file p bs (p + length bs) × Stands file (p + length bs) cs r
stands_split {file} {p} {r} bs cs s =
    let e : drop p file ≡ bs ++ (cs ++ drop r file) = s.here ∙ append_assoc bs cs (drop r file) in
    let d : drop (p + length bs) file ≡ cs ++ drop r file = sym (drop-drop (length bs) p file) ∙ ap (drop (length bs)) e ∙ drop_at bs (cs ++ drop r file) (length bs) refl in
    let n = length-append bs cs in
    (record { here = e ∙ ap (λ x. bs ++ x) (sym d); long = refl; inside = omega (arith, s.long, s.inside) }, record { here = d; long = omega (arith, s.long); inside = s.inside })

pub stands_none : (file : List ℕ) (p : ℕ) → p ≤ length file → Stands file p [] p
stands_none file p h = record { here = refl; long = omega arith; inside = h }

pub stands_none_same : {file : List ℕ} {p q : ℕ} → Stands file p [] q → q ≡ p
stands_none_same s = omega arith

pub stands_all : (bs : List ℕ) → Stands bs 0 bs (length bs)
stands_all bs = record { here = sym (ap (λ x. bs ++ x) (drop_all (length bs) bs (omega arith)) ∙ append-nil bs); long = omega arith; inside = omega arith }

pub stands_whole : {file bs : List ℕ} {q : ℕ} → Stands file 0 bs q → q ≡ length file → file ≡ bs
stands_whole {file} {bs} {q} s e = s.here ∙ ap (λ x. bs ++ x) (drop_all q file (omega arith)) ∙ append-nil bs

pub put_append : (out : List ℕ) (p : ℕ) (bs cs : List ℕ) → put out p (bs ++ cs) ≡ put (put out p bs) (p + length bs) cs
put_append out p [] cs = let e : p ≡ p + 0 = omega arith in ap (λ x. put out x cs) e
put_append out p (b ∷ bs) cs =
    let e : p + 1 + length bs ≡ p + suc (length bs) = omega arith in
    put_append (set out p b) (p + 1) bs cs ∙ ap (λ x. put (put (set out p b) (p + 1) bs) x cs) e

pub length_of_put : (out : List ℕ) (p : ℕ) (bs : List ℕ) → length (put out p bs) ≡ length out
length_of_put out p [] = refl
length_of_put out p (b ∷ bs) = length_of_put (set out p b) (p + 1) bs ∙ length-set out p b
