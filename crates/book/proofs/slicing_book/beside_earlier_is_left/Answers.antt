use Rattle.book.specs.Slicing.{left}
use Rattle.book.proofs.Trees.{tells_holds}
use Rattle.book.proofs.slicing_book.beside_earlier_is_left.Goals as goal

pub returns : goal.returns
returns c n expr o e p q inside a b i j = let h = tells_holds n expr o e (left inside i j) in record { apart = h.0; told = h.1 }
