-- What a book and a group that are lent together mean: the sheet that they make up, and how many cells it has.
use Rattle.std.specs.Prelude.{ℕ}
use Rattle.placement.specs.Meaning.{Meaning}
use Rattle.group.specs.Group.{sheet_of}
use Rattle.group.specs.declared.arrangement.Arrangement.{Arrangement}

abbrev pub meaning_of : {B : _} {b : _} → Arrangement B b → Meaning
meaning_of {B} {b} a = sheet_of (b.order a.book.now) a.group.now

abbrev pub count_of : {B : _} {b : _} → Arrangement B b → ℕ
count_of a = (meaning_of a).order.count
