use Rattle.numbers.proofs.NumberLaws.{reads_back, only_so, bytes_tell_apart, writing_frames}
use Rattle.numbers.proofs.number_laws.Goals as goal

pub returns : goal.returns
returns c = record { back = reads_back; only = only_so; apart = bytes_tell_apart; frames = writing_frames }
