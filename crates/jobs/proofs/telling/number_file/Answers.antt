use Rattle.std.proofs.Common.{◌≡◌, ℕ, List, [], ◌∷◌, ◌++◌, get_or, take, sym, ap, ◌∙◌, append-nil}
use Rattle.std.proofs.lemmas.List.{take_more}
use Rattle.numbers.specs.Number.{encode, encode_all}
use Rattle.numbers.proofs.Encoded.{encode_all_append}
use Rattle.jobs.proofs.telling.number_file.Goals as goal

pub loop-number-preserved : goal.loop-number-preserved
loop-number-preserved c =
    let ns = c.args.numbers.now in
    let i = c.loop-number.number-index in
    let v = get_or ns i 0 in
    let one : encode_all (v ∷ []) ≡ encode v = append-nil (encode v) in
    c.in_ok-push_number.ensures
    ∙ ap (λ (bs : List ℕ). bs ++ encode v) c.loop-number.invariant
    ∙ ap (λ (bs : List ℕ). encode_all (take i ns) ++ bs) (sym one)
    ∙ sym (encode_all_append (take i ns) (v ∷ []))
    ∙ ap encode_all (sym (take_more ns i 0 c.loop-number-test.true))
