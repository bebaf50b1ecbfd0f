-- The lawful placements are read exactly.
use Rattle.std.proofs.Common.{◌≡◌, ℕ, List, [], ◌∷◌, ◌++◌, sym, refl, ◌∙◌, arith}
use Rattle.std.proofs.lemmas.List.{append-nil}
use Rattle.formats.specs.Files.{PlacementFields, by_cell, placement_numbers}
use Rattle.formats.specs.Reading.{and_then, any, placement_head_of, placement_body_at}
use Rattle.formats.specs.Writing.{counts_check, columns_check}
use Rattle.roundtrip.specs.Laws.{LawfulPlacement}
use Rattle.formats.proofs.Checks.{both_parts, both_from, counted, count_passes}
use Rattle.roundtrip.proofs.Exact.{Exact, Of, exact_like, exact_part}
use Rattle.formats.proofs.Small.{count_small, processes_small}
use Rattle.roundtrip.proofs.Level.{checked_level, level_checked, rows_level}
use Rattle.roundtrip.proofs.Storing.{any_rows, rows_any, all_any, storable_append, storable_parts}
use Rattle.roundtrip.proofs.PlacementParts.{Counts, counts_of, exact_counts, GoodLengths, exact_lengths}

module _ (p : PlacementFields) where
  good : LawfulPlacement p → Counts (counts_of p) × GoodLengths (counts_of p) p
  good law =
      let k = p.processes in
      let a = both_parts (counts_check p.count k) (columns_check p.count k 1 p.x p.y) law.0 in
      let l = checked_level k p.count 1 p.x p.y a.1 in
      let s = storable_parts p.half_span (p.depth ++ by_cell p.x p.y) law.3.1.1.1 in
      let t = storable_parts p.depth (by_cell p.x p.y) s.1 in (
        counted p.count k a.0,
        record {
          is = refl;
          half_span = (law.1, all_any p.half_span, s.0);
          depth = (law.2, all_any p.depth, t.0);
          long = l.0;
          places = any_rows k p.x p.y l.1 t.1;
        },
      )

  lawful : Counts (counts_of p) → GoodLengths (counts_of p) p → LawfulPlacement p
  lawful c g =
      let k = p.processes in
      let places = storable_append p.depth (by_cell p.x p.y) g.depth.2 (rows_any k p.x p.y g.places) in (
        both_from (count_passes p.count k c.0 c.1) (level_checked k p.count 1 p.x p.y g.long (rows_level k any p.x p.y g.places)),
        g.half_span.0,
        g.depth.0,
        (omega arith, (count_small p.count c.0, (processes_small k c.1, storable_append p.half_span (p.depth ++ by_cell p.x p.y) g.half_span.2 places))),
      )

  numbers : 0 ∷ p.count ∷ p.processes ∷ (p.half_span ++ (p.depth ++ (by_cell p.x p.y ++ []))) ≡ placement_numbers p
  numbers = simp append-nil

pub exact_placement : (file : List ℕ) → Exact file (λ q. and_then (placement_head_of file q) (λ h r. placement_body_at h file r)) (Of LawfulPlacement placement_numbers)
exact_placement file =
    exact_like
    (λ p ns w. (lawful p w.0.0 w.0.1, w.1 ∙ numbers p))
    (λ p ns w. (good p w.0, w.1 ∙ sym (numbers p)))
    (exact_part counts_of (exact_counts file) (λ _ h. exact_lengths file h) (λ h p _ g. sym g.is))
