use Rattle.book.proofs.Reading.{never_refused}
use Rattle.book.proofs.slicing_book.expression_never_refused.Goals as goal

pub returns : goal.returns
returns c n expr o f laws e why = never_refused n expr o laws e why
