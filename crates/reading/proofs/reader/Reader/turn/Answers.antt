use Rattle.std.proofs.Common.{rules}
use Rattle.formats.specs.Choices.{turn_of}
use Rattle.reading.proofs.reader.Reader.turn.Goals as goal

pub returns : goal.returns
returns c = c.choice.ensures.told turn_of (λ v o h e. search rules)
