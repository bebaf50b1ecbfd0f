-- What a group means: the mate of each cell; and the sheet that a book's order and a group make up.
use Rattle.std.specs.Prelude.{ℕ, None, Option, slice_index_or}
use Rattle.book.specs.Order.{Order}
use Rattle.placement.specs.Meaning.{Meaning}
use Rattle.group.specs.declared.table.Group.{Group}

abbrev pub mate_of : Group → ℕ → Option ℕ
mate_of g a = slice_index_or g.partner a None

abbrev pub sheet_of : Order → Group → Meaning
sheet_of o g = record { order = o; mate = mate_of g }
