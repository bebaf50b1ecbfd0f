use Rattle.formats.specs.Files.{job_numbers}
use Rattle.formats.specs.Reading.{and_then, head, body}
use Rattle.roundtrip.specs.Laws.{LawfulJob}
use Rattle.roundtrip.proofs.Formats.{format}
use Rattle.roundtrip.proofs.Jobs.{exact_job}
use Rattle.roundtrip.proofs.job_laws.Goals as goal

pub returns : goal.returns
returns c = format (λ file p. and_then (head file p) (λ h q. body h file q)) LawfulJob job_numbers exact_job
