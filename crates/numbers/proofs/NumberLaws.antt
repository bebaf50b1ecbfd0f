-- The laws of numbers in files hold.
use Rattle.std.proofs.Common.{◌≡◌, ℕ, zero, suc, ◌+◌, ◌≤◌, List, [], ◌∷◌, ◌++◌, length, take, drop, set, Ok, sym, ap, ◌∙◌, subst, add-zero, arith}
use Rattle.std.proofs.lemmas.List.{append_assoc, append_cancel_left, length-append, length-set, length-drop, drop-drop, drop-set-lt, take-append-drop, take_more_set}
use Rattle.numbers.specs.Number.{encode, Got, got, short, bad, decode}
use Rattle.numbers.specs.Stored.{Bytes}
use Rattle.numbers.specs.Calls.{told}
use Rattle.numbers.specs.Laws.{ReadsBack, OnlySo, BytesTellApart, WritingFrames}
use Rattle.numbers.proofs.ReadingBack.{decode-encode, encode-decode}

pub reads_back : ReadsBack
reads_back file p v q h s =
    ap (λ x. told file p (decode x)) s.here ∙ ap (told file p) (decode-encode v (drop q file) h) ∙ ap (λ x. Ok (v, x)) (sym s.long)

told_got : (file : List ℕ) (p : ℕ) (g : Got) (v q : ℕ) → told file p g ≡ Ok (v, q) → (n : ℕ) × (g ≡ got v n) × (q ≡ p + n)
told_got file p (got w n) v q e =
    let x : ◌≡◌ {A = ℕ × ℕ} (w, p + n) (v, q) = cc in
    (n, ap (λ (y : ℕ × ℕ). got y.0 n) x, sym (ap (λ (y : ℕ × ℕ). y.1) x))
told_got file p short v q e = absurd cc
told_got file p bad v q e = absurd cc

bytes_drop : (n : ℕ) (bs : List ℕ) → Bytes bs → Bytes (drop n bs)
bytes_drop zero bs t = t
bytes_drop (suc n) [] t = t
bytes_drop (suc n) (b ∷ bs) t = bytes_drop n bs t.1

pub only_so : OnlySo
only_so file p v q t h e =
    let g = told_got file p (decode (drop p file)) v q e in
    let n : ℕ = g.0 in
    let w = encode-decode (drop p file) v n (bytes_drop p file t) g.1 in
    let d : drop n (drop p file) ≡ drop q file = drop-drop n p file ∙ ap (λ x. drop x file) (sym g.2) in
    let b : drop p file ≡ encode v ++ drop q file = w.2 ∙ ap (λ x. encode v ++ x) d in
    let l = ap length b in
    (w.0, record { here = b; long = omega (arith, g.2, w.1); inside = omega (arith, l, length-drop p file, length-append (encode v) (drop q file), g.2, w.1) })

pub bytes_tell_apart : BytesTellApart
bytes_tell_apart v w r s hv hw e =
    let a = decode-encode v r hv in
    let b = decode-encode w s hw in
    let c : got v (length (encode v)) ≡ got w (length (encode w)) = sym a ∙ ap decode e ∙ b in
    let d : v ≡ w = cc in
    (d, append_cancel_left (encode w) r s (subst (λ x. encode x ++ r ≡ encode w ++ s) d e))

pub writing_frames : WritingFrames
writing_frames file p [] h = rw add-zero (sym (take-append-drop p file))
writing_frames file p (b ∷ bs) h =
    let r : p + 1 + length bs ≤ length (set file p b) = simp length-set (omega arith) in
    let ih = writing_frames (set file p b) (p + 1) bs r in
    let t = take_more_set file p b (omega arith) in
    let d : drop (p + 1 + length bs) (set file p b) ≡ drop (p + 1 + length bs) file = drop-set-lt (p + 1 + length bs) file p b (omega arith) in
    let q : p + 1 + length bs ≡ p + suc (length bs) = omega arith in
    ih ∙ rw (t, d, q) (append_assoc (take p file) (b ∷ []) (bs ++ drop (p + suc (length bs)) file))
