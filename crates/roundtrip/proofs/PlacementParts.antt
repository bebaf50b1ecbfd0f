-- The counts of a placement and its lengths are read exactly.
use Rattle.std.proofs.Common.{◌≡◌, ℕ, true, List, [], ◌∷◌, ◌++◌, length, sym, refl, ap, arith}
use Rattle.std.proofs.lemmas.Bool.{eqb-true}
use Rattle.refusal.specs.declared.fault.FieldFault.TheVariants as fault
use Rattle.refusal.specs.declared.fault.Side.TheVariants.{Width, Height}
use Rattle.formats.specs.Rules.{is_cell_count, is_processes}
use Rattle.formats.specs.Files.{PlacementFields, by_cell}
use Rattle.formats.specs.Reading.{any, is_mark, Columns, PlacementHead, placement_head_of, placement_of, placement_body_at}
use Rattle.roundtrip.proofs.Exact.{Exact, Of, exact_good, exact_part, exact_ok}
use Rattle.roundtrip.proofs.Fields.{exact_field}
use Rattle.roundtrip.proofs.Choices.{exact_allowed}
use Rattle.roundtrip.proofs.Cells.{Row, Rows, exact_length, exact_columns}
use Rattle.formats.proofs.Small.{count_small, processes_small}

abbrev pub Counts : PlacementHead → Type 0
Counts h = (is_cell_count h.count ≡ true) × (is_processes h.processes ≡ true)

pub exact_counts : (file : List ℕ) → Exact file (placement_head_of file) (Of Counts (λ h. 0 ∷ h.count ∷ h.processes ∷ []))
exact_counts file =
    exact_good
    (λ h w. (w.1.0.0, w.1.1.0.0))
    (λ h g. ((refl, omega arith), ((g.0, count_small h.count g.0), ((g.1, processes_small h.processes g.1), refl))))
    (exact_part (λ _. 0) (exact_allowed is_mark file)
    (λ _ m. exact_part (λ h. h.count) (exact_field file is_cell_count fault.CellCount)
    (λ _ n. exact_part (λ h. h.processes) (exact_allowed is_processes file)
    (λ _ k. exact_ok (record { count = n; processes = k }))
    (λ k h _ e. sym (ap (λ x. x.processes) e)))
    (λ n h _ e. sym (ap (λ x. x.count) e.1)))
    (λ m h g _. eqb-true m 0 g.0))

abbrev pub counts_of : PlacementFields → PlacementHead
counts_of p = record { count = p.count; processes = p.processes }

abbrev columns_of : PlacementFields → Columns
columns_of p = record { firsts = p.x; seconds = p.y }

pub record GoodLengths (h : PlacementHead) (p : PlacementFields) : Type 0 where
  pub is : counts_of p ≡ h
  pub half_span : Row any h.processes p.half_span
  pub depth : Row any h.processes p.depth
  pub long : length p.x ≡ h.count
  pub places : Rows any h.processes p.x p.y

pub exact_lengths : (file : List ℕ) (h : PlacementHead) → Exact file (placement_body_at h file) (Of (GoodLengths h) (λ p. p.half_span ++ (p.depth ++ (by_cell p.x p.y ++ []))))
exact_lengths file h =
    exact_good
    (λ p w. record { is = ap counts_of w.1.1.1; half_span = w.0; depth = w.1.0; long = w.1.1.0.0; places = w.1.1.0.1 })
    (λ p g. (g.half_span, (g.depth, ((g.long, g.places), ap (λ x. placement_of x p.half_span p.depth (columns_of p)) g.is))))
    (exact_part (λ p. p.half_span) (exact_length any h.processes file 0 Width)
    (λ _ a. exact_part (λ p. p.depth) (exact_length any h.processes file 0 Height)
    (λ _ b. exact_part columns_of (exact_columns any h.processes file h.count)
    (λ _ c. exact_ok (placement_of h a b c))
    (λ c p _ e. sym (ap columns_of e)))
    (λ b p _ e. sym (ap (λ x. x.depth) e.1)))
    (λ a p _ e. sym (ap (λ x. x.half_span) e.1.1)))
