use Rattle.std.proofs.Common.{rules}
use Rattle.formats.specs.Reading.{only_if, is_mark}
use Rattle.reading.proofs.reader.Reader.mark.Goals as goal

pub returns : goal.returns
returns c = c.choice.ensures.told (only_if is_mark) (λ v o h e. search rules)
