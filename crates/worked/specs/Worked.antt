-- The worked cases. Lengths are plain numbers.
use Rattle.std.specs.Prelude.{ℕ, List, [], ◌∷◌}
use Rattle.book.specs.declared.relation.Relation.TheVariants.{Left, Above}
use Rattle.sheet.specs.Edits.{Edit, swap, pair, centre}
use Rattle.formats.specs.declared.fields.Turn.TheVariants.{AsItIs, Transposed}
use Rattle.formats.specs.Files.{rows, expression}
use Rattle.worked.specs.Cases.{Sheet, Case, sheet, number, misshapen, lies, refuses, places, odd, AllComeOut}

-- n cells in the order of these two rows, after these edits
abbrev pub in_rows : ℕ → List ℕ → List ℕ → List Edit → Sheet
in_rows n first second edits = record { count = n; order = rows first second; turn = AsItIs; edits = edits }

abbrev pub cases : List Case
cases =
    -- The outer two of a row are a pair. The free cell between them stands half a unit left of the middle, for its place is
    -- halved down, and that of the right member up.
    sheet (in_rows 3 (0 ∷ 2 ∷ 1 ∷ []) (0 ∷ 2 ∷ 1 ∷ []) (pair 0 1 ∷ [])) (places (record {
      widths = 4 ∷ 4 ∷ 3 ∷ [];
      heights = 5 ∷ 5 ∷ 2 ∷ [];
      work = 0 ∷ 7 ∷ 4 ∷ 7 ∷ 0 ∷ 4 ∷ [];
      x = 0 ∷ 8 ∷ 4 ∷ [];
      y = 0 ∷ 0 ∷ 0 ∷ [];
      half = 6;
      depth = 5;
    }) ∷ [])
    -- A pair is lifted to one height: 0 is above 2 only, but its mate is above 3. And 3 is halved down: the right member is
    -- above it, not left of it.
    ∷ sheet (in_rows 4 (0 ∷ 2 ∷ 1 ∷ 3 ∷ []) (2 ∷ 0 ∷ 3 ∷ 1 ∷ []) (pair 0 1 ∷ [])) (places (record {
      widths = 4 ∷ 4 ∷ 5 ∷ 4 ∷ [];
      heights = 2 ∷ 2 ∷ 3 ∷ 7 ∷ [];
      work = 0 ∷ 5 ∷ 0 ∷ 5 ∷ 5 ∷ 0 ∷ 4 ∷ 0 ∷ [];
      x = 0 ∷ 6 ∷ 0 ∷ 5 ∷ [];
      y = 7 ∷ 7 ∷ 0 ∷ 0 ∷ [];
      half = 5;
      depth = 9;
    }) ∷ [])
    -- A free cell is halved up, for the right member is left of it; halved down, the two would overlap.
    ∷ sheet (in_rows 4 (0 ∷ 2 ∷ 1 ∷ 3 ∷ []) (0 ∷ 2 ∷ 1 ∷ 3 ∷ []) (pair 0 1 ∷ [])) (places (record {
      widths = 4 ∷ 4 ∷ 3 ∷ 1 ∷ [];
      heights = 1 ∷ 1 ∷ 1 ∷ 1 ∷ [];
      work = 1 ∷ 8 ∷ 5 ∷ 12 ∷ 8 ∷ 1 ∷ 5 ∷ 0 ∷ [];
      x = 1 ∷ 9 ∷ 5 ∷ 13 ∷ [];
      y = 0 ∷ 0 ∷ 0 ∷ 0 ∷ [];
      half = 7;
      depth = 1;
    }) ∷ [])
    -- Crossed pairs in a row: 0 is left of 1, and their mates stand the same way round.
    ∷ sheet (in_rows 4 (0 ∷ 1 ∷ 2 ∷ 3 ∷ []) (0 ∷ 1 ∷ 2 ∷ 3 ∷ []) (pair 0 2 ∷ [])) (refuses (pair 1 3) 0 1 ∷ [])
    -- Nested pairs in the same row are accepted.
    ∷ sheet (in_rows 4 (0 ∷ 1 ∷ 2 ∷ 3 ∷ []) (0 ∷ 1 ∷ 2 ∷ 3 ∷ []) (pair 0 3 ∷ pair 1 2 ∷ [])) []
    -- So is a pair that lies above one cell of another pair and left of the other.
    ∷ sheet (in_rows 4 (0 ∷ 1 ∷ 2 ∷ 3 ∷ []) (2 ∷ 0 ∷ 1 ∷ 3 ∷ []) (pair 0 1 ∷ pair 2 3 ∷ [])) (places (record {
      widths = 2 ∷ 2 ∷ 3 ∷ 3 ∷ [];
      heights = 1 ∷ 1 ∷ 4 ∷ 4 ∷ [];
      work = 3 ∷ 5 ∷ 0 ∷ 7 ∷ 5 ∷ 3 ∷ 7 ∷ 0 ∷ [];
      x = 3 ∷ 5 ∷ 0 ∷ 7 ∷ [];
      y = 4 ∷ 4 ∷ 0 ∷ 0 ∷ [];
      half = 5;
      depth = 5;
    }) ∷ [])
    -- The two of a pair cannot stand one above the other.
    ∷ sheet (in_rows 2 (0 ∷ 1 ∷ []) (1 ∷ 0 ∷ []) []) (refuses (pair 0 1) 0 1 ∷ [])
    -- Two centred cells can.
    ∷ sheet (in_rows 2 (0 ∷ 1 ∷ []) (1 ∷ 0 ∷ []) (centre 0 ∷ centre 1 ∷ [])) (places (record {
      widths = 4 ∷ 6 ∷ [];
      heights = 2 ∷ 5 ∷ [];
      work = 0 ∷ 0 ∷ 0 ∷ 0 ∷ [];
      x = 1 ∷ 0 ∷ [];
      y = 5 ∷ 0 ∷ [];
      half = 3;
      depth = 7;
    }) ∷ [])
    -- A swap that would put a pair one above the other is refused, and leaves the order as it was.
    ∷ sheet (in_rows 3 (0 ∷ 1 ∷ 2 ∷ []) (2 ∷ 0 ∷ 1 ∷ []) (pair 0 1 ∷ [])) (refuses (swap 1 2) 0 1 ∷ lies 0 1 Left ∷ [])
    -- A slicing expression: 3 joins 0 and 1 side by side, and 4 puts 2 on top of both.
    ∷ sheet (record { count = 3; order = expression (0 ∷ 1 ∷ 3 ∷ 2 ∷ 4 ∷ []); turn = AsItIs; edits = [] }) (lies 0 1 Left ∷ lies 2 0 Above ∷ lies 2 1 Above ∷ [])
    -- A row, transposed, is a stack with 1 above 0, and so the couple is told the other way round.
    ∷ sheet (record { count = 2; order = rows (0 ∷ 1 ∷ []) (0 ∷ 1 ∷ []); turn = Transposed; edits = [] }) (refuses (pair 0 1) 1 0 ∷ [])
    -- One free cell of odd width: twice the half-span is one more than the width.
    ∷ sheet (in_rows 1 (0 ∷ []) (0 ∷ []) []) (places (record {
      widths = 5 ∷ [];
      heights = 1 ∷ [];
      work = 0 ∷ 0 ∷ [];
      x = 0 ∷ [];
      y = 0 ∷ [];
      half = 3;
      depth = 1;
    }) ∷ [])
    -- Centred, it has no whole-number place.
    ∷ sheet (in_rows 1 (0 ∷ []) (0 ∷ []) (centre 0 ∷ [])) (odd (5 ∷ []) (1 ∷ []) 0 ∷ [])
    -- A number of two bytes, the lowest seven bits first.
    ∷ number 300 (172 ∷ 2 ∷ [])
    -- The same number with a third byte that adds nothing.
    ∷ misshapen (172 ∷ 130 ∷ 0 ∷ [])
    ∷ []

abbrev pub Worked : Type 0
Worked = AllComeOut cases
