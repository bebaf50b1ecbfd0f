use Rattle.std.proofs.Common.{◌≡◌, ℕ, ◌+◌, ◌<◌, [], ◌∷◌, ◌++◌, length, arith}
use Rattle.std.proofs.lemmas.List.{length-take, length-drop}
use Rattle.numbers.specs.Number.{encode}
use Rattle.numbers.proofs.Encoded.{encode-some}
use Rattle.numbers.proofs.WritingSteps.{left_more, left_last, written}
use Rattle.numbers.proofs.write_number.Goals as goal

pub loop-byte-preserved : goal.loop-byte-preserved
loop-byte-preserved c =
    let s = c.number_size-size.ensures.long in
    let some = encode-some c.args.v in
    let n : length c.loop-byte.byte-items + 1 ≡ length (encode c.args.v) = omega (arith, length-take {A = ℕ}, length-drop {A = ℕ}) in
    left_more c.args.v c.loop-byte.byte-items n c.loop-byte.byte-index c.loop-byte.rest c.loop-byte.invariant.0 (omega arith) c.loop-byte.invariant.1

all_but_one : (c : goal.After-slice_known-in-loop-byte-1) → (length c.loop-byte.byte-items + 1 ≡ length (encode c.args.v)) × (length c.loop-byte.byte-items ≡ c.loop-byte.byte-index)
all_but_one c =
    let s = c.number_size-size.ensures.long in
    let some = encode-some c.args.v in
    (omega (arith, length-take {A = ℕ}, length-drop {A = ℕ}), omega arith)

last : (c : goal.After-slice_known-in-loop-byte-1) → (c.loop-byte.rest < 128) × (c.loop-byte.byte-items ++ (c.loop-byte.rest ∷ []) ≡ encode c.args.v)
last c =
    let n = all_but_one c in
    let k = c.loop-byte.invariant.0 in
    left_last c.args.v c.loop-byte.byte-items n.0 c.loop-byte.rest k (rw n.1 c.loop-byte.invariant.1)

pub overflow_cast-out : goal.overflow_cast-out
overflow_cast-out c = omega (arith, (last c).0)

pub returns-clause-wrote : goal.returns-clause-wrote
returns-clause-wrote c =
    let n = all_but_one c in
    let s = c.number_size-size.ensures.long in
    record {
      fits = λ h. written c.args.out.now c.args.at c.args.v c.loop-byte.byte-items c.loop-byte.rest _ _ (omega (arith, n)) (omega (arith, n)) h (last c).1;
      overflows = λ h. absurd (omega arith);
    }
