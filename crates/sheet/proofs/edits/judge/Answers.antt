use Rattle.sheet.specs.Edits.{first}
use Rattle.sheet.proofs.edits.judge.Goals as goal

pub returns-in-Some-clause-couple : goal.returns-in-Some-clause-couple
returns-in-Some-clause-couple g c = first c.in-Some.ensures
