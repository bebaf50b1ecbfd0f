use Rattle.std.proofs.Common.{rules}
use Rattle.formats.specs.Choices.{book_of}
use Rattle.reading.proofs.reader.Reader.book_kind.Goals as goal

pub returns : goal.returns
returns c = c.choice.ensures.told book_of (λ v o h e. search rules)
