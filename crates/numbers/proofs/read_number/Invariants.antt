-- The bytes so far make the number with what is left to read.
use Rattle.std.proofs.Common.{◌≡◌, ◌+◌, ◌^◌, ◌<◌, length, drop}
use Rattle.numbers.specs.Number.{decode, tail}
use Rattle.numbers.proofs.ReadingSteps.{lift}
use Rattle.numbers.proofs.read_number.Given as goal

abbrev pub invariant-loop-i : goal.invariant-loop-i
invariant-loop-i l =
    let bytes = l.i-iterator.iter in
    let i = l.i-iterator.count in record {
      few : i < 5;
      to_take : bytes.n + i ≡ 5;
      scaled : l.scale ≡ 128 ^ i;
      small : l.value < l.scale;
      place : l.start + i + length bytes.iter.rest.now ≡ length l.file;
      reads : decode (drop l.start l.file) ≡ lift l.value l.scale i (tail i bytes.iter.rest.now);
    }
