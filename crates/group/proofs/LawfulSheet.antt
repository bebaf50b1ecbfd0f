-- The sheet that a lawful order and a group over as many cells make up is lawful; and mates are cells.
use Rattle.std.proofs.Common.{◌≡◌, ℕ, ◌<◌, Some, arith}
use Rattle.book.specs.Order.{Order, Laws}
use Rattle.placement.specs.Meaning.{Lawful}
use Rattle.group.specs.declared.table.Group.{Group}
use Rattle.group.specs.declared.arrangement.Arrangement.{Arrangement}
use Rattle.group.specs.Group.{mate_of, sheet_of}
use Rattle.group.specs.Arranged.{meaning_of}

pub mate_inside : (g : Group) (a b : ℕ) → mate_of g a ≡ Some b → b < g.count
mate_inside g a b told = g.inside b a (g.returned a b told)

pub lawful_sheet : (o : Order) (g : Group) → Laws o → g.count ≡ o.count → Lawful (sheet_of o g)
lawful_sheet o g laws counts = record {
  laws = laws;
  both_ways = λ a b mate.
      let cell = mate_inside g a b mate.told in
      record { cell = omega arith; told = g.returned a b mate.told };
}

-- so is the sheet of a book and a group that are lent together
pub lawful_arranged : {B : _} {b : _} (a : Arrangement B b) → Laws (b.order a.book.now) → Lawful (meaning_of a)
lawful_arranged {B} {b} a laws = lawful_sheet (b.order a.book.now) a.group.now laws a.counted
