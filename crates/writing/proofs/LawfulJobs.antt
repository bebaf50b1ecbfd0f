-- A job that can be written has few numbers, which a file can hold; and a placement has few lengths.
use Rattle.std.proofs.Common.{◌≡◌, ℕ, ◌+◌, ◌-◌, ◌*◌, ◌≤◌, eqb, List, [], length, Ok, arith}
use Rattle.std.proofs.lemmas.List.{length-append}
use Rattle.std.proofs.lemmas.Bool.{and_parts, eqb-true}
use Rattle.numbers.specs.Number.{EachStorable}
use Rattle.formats.specs.declared.fields.BookKind.TheVariants.{SequencePair, Slicing}
use Rattle.formats.specs.Rules.{fits}
use Rattle.formats.specs.Files.{OrderFields, rows, expression, JobFields, PlacementFields, order_numbers, entry_numbers}
use Rattle.formats.proofs.Checks.{both_parts, passed, counted}
use Rattle.formats.proofs.Small.{count_few, order_small}
use Rattle.formats.proofs.FewEntries.{entries_few, entries_small}
use Rattle.formats.specs.Writing.{list_check, unplaced, order_check, sizes_check, entries_check, length_check, are_long, each_of, columns_check, lists_check, counts_check, job_check, placement_check}

columns_long : (n k l : ℕ) (us vs : List (List ℕ)) → columns_check n k l us vs ≡ Ok tt → length us ≡ n
columns_long n k l us vs e =
    let b = both_parts (length_check (are_long n k us) l) (length_check (are_long n k vs) (l + 1)) e in
    eqb-true (length us) n (and_parts (eqb (length us) n) (each_of k us) (passed (are_long n k us) _ b.0)).0

-- rows or an expression of few and small numbers
pub record Few (most : ℕ) (us : List ℕ) : Type 0 where
  pub few : length us ≤ most
  pub small : EachStorable us

abbrev pub FewOrder : OrderFields → Type 0
FewOrder (rows first second) = Few 64 first × Few 64 second
FewOrder (expression list) = Few 127 list

module _ (j : JobFields) (n≤64 : j.count ≤ 64) where
  order_few : (o : OrderFields) → lists_check j o ≡ Ok tt → order_check j.count o ≡ Ok tt → FewOrder o × (length j.widths ≡ j.count)
  order_few (rows first second) e f =
      let a = both_parts (length_check (eqb (length first) j.count) 1) _ e in
      let b = both_parts (length_check (eqb (length second) j.count) 2) _ a.1 in
      let c = both_parts (list_check (fits SequencePair j.count) (unplaced 1) [] first) (list_check (fits SequencePair j.count) (unplaced 2) [] second) f in
      let first_long = eqb-true (length first) j.count (passed (eqb (length first) j.count) _ a.0) in
      let second_long = eqb-true (length second) j.count (passed (eqb (length second) j.count) _ b.0) in (
        (
          record { few = omega arith; small = order_small SequencePair j.count (unplaced 1) [] first n≤64 c.0 },
          record { few = omega arith; small = order_small SequencePair j.count (unplaced 2) [] second n≤64 c.1 },
        ),
        columns_long j.count j.processes 3 j.widths j.heights b.1,
      )
  order_few (expression list) e f =
      let a = both_parts (length_check (eqb (length list) (2 * j.count - 1)) 1) _ e in
      let long = eqb-true (length list) (2 * j.count - 1) (passed (eqb (length list) (2 * j.count - 1)) _ a.0) in (
        record { few = omega arith; small = order_small Slicing j.count (unplaced 1) [] list n≤64 f },
        columns_long j.count j.processes 2 j.widths j.heights a.1,
      )

few_order : (o : OrderFields) → FewOrder o → length (order_numbers o) ≤ 128
few_order (rows first second) b = omega (arith, length-append first second, b.0.few, b.1.few)
few_order (expression list) b = omega (arith, b.few)

pub record SmallJob (j : JobFields) : Type 0 where
  pub order : FewOrder j.order
  pub order_few : length (order_numbers j.order) ≤ 128
  pub widths : length j.widths ≤ 64
  pub entries_few : length j.entries ≤ 64
  pub entries_small : EachStorable (entry_numbers j.entries)

pub lawful_small : (j : JobFields) → job_check j ≡ Ok tt → SmallJob j
lawful_small j e =
    let a = both_parts (counts_check j.count j.processes) _ e in
    let b = both_parts (lists_check j j.order) _ a.1 in
    let c = both_parts (order_check j.count j.order) _ b.1 in
    let d = both_parts (sizes_check 0 j.widths j.heights) (entries_check j.count [] j.entries) c.1 in
    let n = count_few j.count (counted j.count j.processes a.0).0 in
    let o = order_few j n j.order b.0 c.0 in
    record {
      order = o.0;
      order_few = few_order j.order o.0;
      widths = omega (arith, o.1);
      entries_few = omega (arith, entries_few j.count j.entries d.1);
      entries_small = entries_small j.count [] j.entries n d.1;
    }

pub placement_few : (p : PlacementFields) → placement_check p ≡ Ok tt → length p.x ≤ 64
placement_few p e =
    let a = both_parts (counts_check p.count p.processes) _ e in
    omega (arith, count_few p.count (counted p.count p.processes a.0).0, columns_long p.count p.processes 1 p.x p.y a.1)
