use Rattle.std.proofs.Common.{◌≡◌, take, vec_items}
use Rattle.numbers.specs.Number.{encode_all}
use Rattle.jobs.proofs.telling.number_file.Given as goal

abbrev pub invariant-loop-number : goal.invariant-loop-number
invariant-loop-number l = vec_items l.bytes ≡ encode_all (take l.number-index l.numbers)
