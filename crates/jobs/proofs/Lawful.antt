-- What a lawful job's counts and lists are, and that its placement is lawful.
use Rattle.std.proofs.Common.{◌≡◌, ℕ, suc, ◌-◌, ◌*◌, ◌<◌, Bool, true, false, cond, ◌&&◌, eqb, List, [], ◌∷◌, map, length, get_or, Ok, vec_items, refl, ap, ◌∙◌, arith}
use lib.ListN.{length-map}
use Rattle.std.proofs.lemmas.Bool.Decides.{nat_tests}
use Rattle.numbers.specs.Stored.{Bytes}
use Rattle.formats.specs.declared.job.Job.{Job}
use Rattle.formats.specs.Held.{job_fields}
use Rattle.formats.specs.Rules.{is_cell_count, is_processes}
use Rattle.formats.specs.Files.{OrderFields, rows, expression, JobFields, PlacementFields}
use Rattle.formats.specs.Writing.{counts_check, lists_check, order_check, columns_check, length_check, job_check, placement_check, are_long, each_of}
use Rattle.formats.proofs.Checks.{both_parts, both_from, passed, pass_from, counted, count_passes}

pub record Checked (j : JobFields) : Type 0 where
  pub is_counted : is_cell_count j.count ≡ true
  pub is_processed : is_processes j.processes ≡ true
  pub lists : lists_check j j.order ≡ Ok tt
  pub order : order_check j.count j.order ≡ Ok tt

pub job_checked : (j : JobFields) → job_check j ≡ Ok tt → Checked j
job_checked j e =
    let a = both_parts (counts_check j.count j.processes) _ e in
    let b = both_parts (lists_check j j.order) _ a.1 in
    let c = both_parts (order_check j.count j.order) _ b.1 in
    let n = counted j.count j.processes a.0 in
    record { is_counted = n.0; is_processed = n.1; lists = b.0; order = c.0 }

and_parts : (a b : Bool) → (a && b) ≡ true → (a ≡ true) × (b ≡ true)
and_parts a b e = (grind (arith, nat_tests), grind (arith, nat_tests))

long_parts : (n k : ℕ) (us : List (List ℕ)) → are_long n k us ≡ true → (length us ≡ n) × (each_of k us ≡ true)
long_parts n k us e = let p = and_parts (eqb (length us) n) (each_of k us) e in (grind (arith, nat_tests), p.1)

columns_long : (n k l : ℕ) (us vs : List (List ℕ)) → columns_check n k l us vs ≡ Ok tt → are_long n k us ≡ true
columns_long n k l us vs e = passed (are_long n k us) _ (both_parts (length_check (are_long n k us) l) _ e).0

-- the widths of a lawful job
pub widths_long : (j : JobFields) (o : OrderFields) → lists_check j o ≡ Ok tt → are_long j.count j.processes j.widths ≡ true
widths_long j (rows first second) e =
    let a = both_parts (length_check (eqb (length first) j.count) 1) _ e in
    let b = both_parts (length_check (eqb (length second) j.count) 2) _ a.1 in
    columns_long j.count j.processes 3 j.widths j.heights b.1
widths_long j (expression list) e =
    columns_long j.count j.processes 2 j.widths j.heights (both_parts (length_check (eqb (length list) (2 * j.count - 1)) 1) _ e).1

-- a job of one kind of length has as many processes as the kind has numbers
pub processes_are : {V : Type 0} (numbers : V → List ℕ) (count : ℕ) → ((v : V) → length (numbers v) ≡ count) → (n k : ℕ) (ws : List V) → is_cell_count n ≡ true → are_long n k (map numbers ws) ≡ true → k ≡ count
processes_are numbers count each n k [] some long = absurd (let p = long_parts n k [] long in grind (arith, nat_tests))
processes_are numbers count each n k (w ∷ ws) some long =
    let p = long_parts n k (map numbers (w ∷ ws)) long in
    let q = and_parts (eqb (length (numbers w)) k) (each_of k (map numbers ws)) p.1 in
    let c = each w in
    grind (arith, nat_tests)

each_is : {V : Type 0} (numbers : V → List ℕ) (count : ℕ) → ((v : V) → length (numbers v) ≡ count) → (k : ℕ) → k ≡ count → (ws : List V) → each_of k (map numbers ws) ≡ true
each_is numbers count each k same [] = refl
each_is numbers count each k same (w ∷ ws) =
    let here = each w in
    let rest = each_is numbers count each k same ws in
    let a : eqb (length (numbers w)) k ≡ true = grind (arith, nat_tests) in
    rw (a, rest)

-- n lengths of one kind make a lawful list
pub long_list : {V : Type 0} (numbers : V → List ℕ) (count : ℕ) → ((v : V) → length (numbers v) ≡ count) → (n k : ℕ) → k ≡ count → (ws : List V) → length ws ≡ n → are_long n k (map numbers ws) ≡ true
long_list numbers count each n k same ws long =
    let a : eqb (length (map numbers ws)) n ≡ true = let l = length-map ws numbers in grind (arith, nat_tests) in
    let b = each_is numbers count each k same ws in
    rw (a, b)

-- a placement of lawful counts and long lists is lawful
pub placement_lawful : (p : PlacementFields) → is_cell_count p.count ≡ true → is_processes p.processes ≡ true → are_long p.count p.processes p.x ≡ true → are_long p.count p.processes p.y ≡ true → placement_check p ≡ Ok tt
placement_lawful p n k x y = both_from (count_passes p.count p.processes n k) (both_from (pass_from _ x) (pass_from _ y))

-- a list of numbers below 256 is one of bytes
pub each_byte : (file : List ℕ) → ((i : ℕ) → get_or file i 0 < 256) → Bytes file
each_byte [] small = tt
each_byte (b ∷ bs) small = (small 0, each_byte bs (λ i. small (suc i)))

-- a copy of one of two lists
pub copied : {V : Type 0} {first second : Bool} {us vs xs ys list items : List V} → items ≡ list → list ≡ cond first us vs → us ≡ xs → vs ≡ ys → first ≡ second → items ≡ cond second xs ys
copied {V} {first} {second} {us} {vs} {xs} {ys} is picked u v same =
    is ∙ picked ∙ ap (λ (a : List V). cond first a vs) u ∙ ap (λ (b : List V). cond first xs b) v ∙ ap (λ (t : Bool). cond t xs ys) same

pub either_long : {V : Type 0} (t : Bool) (us vs : List V) (n : ℕ) → length us ≡ n → length vs ≡ n → length (cond t us vs) ≡ n
either_long true us vs n u v = u
either_long false us vs n u v = v

pub map_either : {V : Type 0} (numbers : V → List ℕ) (t : Bool) (us vs : List V) → map numbers (cond t us vs) ≡ cond t (map numbers us) (map numbers vs)
map_either numbers true us vs = refl
map_either numbers false us vs = refl

-- the lengths of the lists of a lawful order
pub rows_long : (j : JobFields) (first second : List ℕ) → lists_check j (rows first second) ≡ Ok tt → (length first ≡ j.count) × (length second ≡ j.count)
rows_long j first second e =
    let a = both_parts (length_check (eqb (length first) j.count) 1) _ e in
    let b = both_parts (length_check (eqb (length second) j.count) 2) _ a.1 in
    let p = passed (eqb (length first) j.count) _ a.0 in
    let q = passed (eqb (length second) j.count) _ b.0 in
    (grind (arith, nat_tests), grind (arith, nat_tests))

pub expression_long : (j : JobFields) (list : List ℕ) → lists_check j (expression list) ≡ Ok tt → length list ≡ 2 * j.count - 1
expression_long j list e =
    let p = passed (eqb (length list) (2 * j.count - 1)) _ (both_parts (length_check (eqb (length list) (2 * j.count - 1)) 1) _ e).0 in
    grind (arith, nat_tests)

-- a lawful job of one kind of length has as many processes as the kind has numbers
pub job_processes : {V : Type 0} (numbers : V → List ℕ) (count : ℕ) → ((v : V) → length (numbers v) ≡ count) → (job : Job V) → job_check (job_fields numbers job) ≡ Ok tt → job.processes ≡ count
job_processes numbers count each job lawful =
    let j = job_fields numbers job in
    let checked = job_checked j lawful in
    processes_are numbers count each job.count job.processes (vec_items job.widths) checked.is_counted (widths_long j j.order checked.lists)
