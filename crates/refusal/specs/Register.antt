-- The register: for each case of each fault, the refusal that it comes to.
use Rattle.std.specs.Prelude.{ℕ, cond, ◌==◌, nat_le}
use Rattle.refusal.specs.declared.fault.Side.{Side}
use Rattle.refusal.specs.declared.fault.Side.TheVariants.{Width, Height}
use Rattle.refusal.specs.declared.fault.Layer.{Layer}
use Rattle.refusal.specs.declared.fault.Layer.TheVariants.{Bytes as byte_layer, Fields as field_layer, Sheet as sheet_layer}
use Rattle.refusal.specs.declared.fault.ByteFault.{ByteFault}
use Rattle.refusal.specs.declared.fault.ByteFault.TheVariants.{Ends, NotShortest}
use Rattle.refusal.specs.declared.fault.FieldFault.{FieldFault}
use Rattle.refusal.specs.declared.fault.FieldFault.TheVariants as field
use Rattle.refusal.specs.declared.fault.SheetFault.{SheetFault}
use Rattle.refusal.specs.declared.fault.SheetFault.TheVariants as sheet
use Rattle.refusal.specs.declared.fault.Refusal.{Refusal}

-- the number by which a detail names a side
abbrev pub side_number : Side → ℕ
side_number Width = 1
side_number Height = 2

-- the number by which a refusal file names a layer
abbrev pub layer_number : Layer → ℕ
layer_number byte_layer = 1
layer_number field_layer = 2
layer_number sheet_layer = 3

-- the layer that a number belongs to: 1 and 2 bytes, 3 to 8 and 17 fields, the rest sheet
abbrev pub layer_of : ℕ → Layer
layer_of k = cond (nat_le k 2) byte_layer (cond (nat_le k 8) field_layer (cond (k == 17) field_layer sheet_layer))

-- number, layer, offset and the two details
abbrev pub refusal : ℕ → Layer → ℕ → ℕ → ℕ → Refusal
refusal k l at x y = record { number = k; layer = l; offset = at; first = x; second = y }

abbrev pub byte_told : ByteFault → Refusal
byte_told (Ends size) = refusal 1 byte_layer size 0 0
byte_told (NotShortest at) = refusal 2 byte_layer at 0 0

abbrev pub field_told : FieldFault → Refusal
field_told (field.Bytes f) = byte_told f
field_told (field.TrailingBytes at) = refusal 3 field_layer at 0 0
field_told (field.UnknownChoice at) = refusal 4 field_layer at 0 0
field_told (field.CellCount at _) = refusal 5 field_layer at 0 0
field_told (field.Order at _ _) = refusal 6 field_layer at 0 0
field_told (field.NotASize at c s) = refusal 7 field_layer at c (side_number s)
field_told (field.GroupEntry at) = refusal 8 field_layer at 0 0
field_told (field.OutputTooShort size) = refusal 17 field_layer 0 size 0

-- A sheet does not know files: `at` is the place of the group entry whose doing the fault is, or 0 for a direct call.
abbrev pub sheet_told : ℕ → SheetFault → Refusal
sheet_told at (sheet.Field f) = field_told f
sheet_told at (sheet.NotASize c s) = refusal 7 sheet_layer at c (side_number s)
sheet_told at (sheet.NoSuchCell c) = refusal 9 sheet_layer at c 0
sheet_told at (sheet.SameCell c) = refusal 10 sheet_layer at c 0
sheet_told at (sheet.AlreadyGrouped c) = refusal 11 sheet_layer at c 0
sheet_told at (sheet.NotGrouped c) = refusal 12 sheet_layer at c 0
sheet_told at (sheet.ListLength l) = refusal 13 sheet_layer at l 0
sheet_told at (sheet.Unplaceable x y) = refusal 14 sheet_layer at x y
sheet_told at (sheet.PairSizesDiffer c d) = refusal 15 sheet_layer at c d
sheet_told at (sheet.OddCentre c) = refusal 16 sheet_layer at c 0
