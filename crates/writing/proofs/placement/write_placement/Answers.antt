use Rattle.writing.proofs.FilesWritten.{written_refused}
use Rattle.writing.proofs.placement.write_placement.Goals as goal

pub returns-in_err-lawful : goal.returns-in_err-lawful
returns-in_err-lawful g c = written_refused _ _ c.from_residual.ensures.1 c.in_err-lawful.ensures
