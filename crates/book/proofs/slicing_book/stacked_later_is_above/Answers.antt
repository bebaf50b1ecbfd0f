use Rattle.book.specs.Slicing.{above}
use Rattle.book.proofs.Trees.{tells_holds}
use Rattle.book.proofs.slicing_book.stacked_later_is_above.Goals as goal

pub returns : goal.returns
returns c n expr o e p q inside a b i j = let h = tells_holds n expr o e (above inside i j) in record { apart = h.0; told = h.1 }
