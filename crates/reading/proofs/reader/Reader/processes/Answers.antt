use Rattle.std.proofs.Common.{rules}
use Rattle.formats.specs.Rules.{is_processes}
use Rattle.formats.specs.Reading.{only_if}
use Rattle.reading.proofs.reader.Reader.processes.Goals as goal

pub returns-clause-told : goal.returns-clause-told
returns-clause-told c = c.choice.ensures.told (only_if is_processes) (λ v o h e. search rules)
