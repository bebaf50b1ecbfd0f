-- A job's sizes and entries are read exactly.
use Rattle.std.proofs.Common.{◌≡◌, ℕ, List, [], ◌∷◌, ◌++◌, length, Ok, sym, refl, ap}
use Rattle.numbers.specs.Number.{Storable}
use Rattle.formats.specs.Rules.{is_size_number}
use Rattle.formats.specs.Files.{JobFields, by_cell, entry_numbers}
use Rattle.formats.specs.Reading.{Columns, Head, job_of, body}
use Rattle.formats.specs.Writing.{entries_check}
use Rattle.numbers.specs.Number.{EachStorable}
use Rattle.roundtrip.proofs.Exact.{Exact, Of, exact_good, exact_part, exact_ok}
use Rattle.roundtrip.proofs.Fields.{exact_number}
use Rattle.roundtrip.proofs.Cells.{Rows, exact_columns}
use Rattle.roundtrip.proofs.Entries.{exact_entries}

abbrev pub head_of : JobFields → Head
head_of j = record { count = j.count; order = j.order; turn = j.turn; processes = j.processes }

abbrev columns_of : JobFields → Columns
columns_of j = record { firsts = j.widths; seconds = j.heights }

pub record GoodBody (h : Head) (j : JobFields) : Type 0 where
  pub is : head_of j ≡ h
  pub long : length j.widths ≡ h.count
  pub sizes : Rows is_size_number h.processes j.widths j.heights
  pub few : Storable (length j.entries)
  pub entries : entries_check h.count [] j.entries ≡ Ok tt
  pub small : EachStorable (entry_numbers j.entries)

abbrev pub body_numbers : JobFields → List ℕ
body_numbers j = by_cell j.widths j.heights ++ (length j.entries ∷ (entry_numbers j.entries ++ []))

pub exact_body : (file : List ℕ) (h : Head) → Exact file (body h file) (Of (GoodBody h) body_numbers)
exact_body file h =
    exact_good
    (λ j w. record { is = ap head_of w.1.1.1; long = w.0.0; sizes = w.0.1; few = w.1.0; entries = w.1.1.0.1; small = w.1.1.0.2 })
    (λ j g. ((g.long, g.sizes), (g.few, ((refl, g.entries, g.small), ap (λ x. job_of x (columns_of j) j.entries) g.is))))
    (exact_part columns_of (exact_columns is_size_number h.processes file h.count)
    (λ _ c. exact_part (λ j. length j.entries) (exact_number file)
    (λ _ k. exact_part (λ j. j.entries) (exact_entries h.count file k)
    (λ _ es. exact_ok (job_of h c es))
    (λ es j _ e. sym (ap (λ x. x.entries) e)))
    (λ k j _ e. sym e.0.0))
    (λ c j _ e. sym (ap columns_of e.1.1)))
