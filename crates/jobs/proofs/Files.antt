-- What a file comes to, by what it was read as.
use Rattle.std.proofs.Common.{◌≡◌, ℕ, List, Ok}
use Rattle.formats.specs.Reading.{read_job_of}
use Rattle.reading.specs.declared.job.AnyJob.{AnyJob}
use Rattle.reading.specs.declared.job.AnyJob.TheVariants.{One, Three}
use Rattle.reading.specs.declared.error.ReadError.{ReadError}
use Rattle.reading.specs.declared.error.ReadError.TheVariants.{Refused, Memory}
use Rattle.reading.specs.Calls.{Fails}
use Rattle.reading.specs.Held.{any_job}
use Rattle.jobs.specs.Answers.{ComesOf, RefusedBy, Answers, refused, one, three}

pub came_to : (job : AnyJob) (file out : List ℕ) → read_job_of file ≡ Ok (any_job job) → ComesOf job out → Answers file out
came_to (One j) file out read came = one read came.0 came.1
came_to (Three j) file out read came = three read came.0 came.1

pub refused_so : (error : ReadError) (file out : List ℕ) → Fails (read_job_of file) error → RefusedBy error out → Answers file out
refused_so (Refused f) file out read so = refused read so
refused_so Memory file out read so = absurd so
