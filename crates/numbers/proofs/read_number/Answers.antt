use Rattle.std.proofs.Common.{◌≡◌, ◌+◌, ◌*◌, ◌^◌, ◌<◌, true, false, length, sym, ap, ◌∙◌, arith, rules}
use Rattle.numbers.specs.Number.{unlawful, tail}
use Rattle.numbers.specs.Calls.{told}
use Rattle.numbers.proofs.ReadingBack.{tail_last, tail_more, tail_bad}
use Rattle.numbers.proofs.ReadingSteps.{lift, number_ends, lift_more, bound_at, grows_at, lawful_last, not_last}
use Rattle.numbers.proofs.read_number.Goals as goal

pub returns-then-misplaced-clause-told : goal.returns-then-misplaced-clause-told
returns-then-misplaced-clause-told c =
    let l = c.loop-i in
    let i = l.i-iterator.count in
    let b = c.in-Some.byte.now in
    let s = c.in-Some.ensures.steps in
    let u : unlawful i b ≡ true = ap (λ j. unlawful j b) (sym s.1) ∙ sym c.if-misplaced.ensures in
    let e = ap (tail i) s.0.0 ∙ tail_bad i b _ u in
    sym (ap (told c.args.file.now c.args.start) (l.invariant.reads ∙ ap (lift l.value l.scale i) e))

sum_fits : (c : goal.After-from) → c.loop-i.value + c.from.result * c.loop-i.scale < 2 ^ 32
sum_fits c =
    let t = lawful_last c.in-Some.i c.in-Some.byte.now (sym c.if-misplaced.ensures) in
    let s = c.in-Some.ensures.steps in
    bound_at c.loop-i.i-iterator.count c.loop-i.value c.from.result c.loop-i.scale c.loop-i.invariant.scaled c.loop-i.invariant.few c.loop-i.invariant.small (omega arith) (λ z. omega (arith, t (omega arith)))

pub overflow_mul-result : goal.overflow_mul-result
overflow_mul-result c = omega (arith, sum_fits c)

pub overflow_add-result : goal.overflow_add-result
overflow_add-result c = omega (arith, sum_fits c)

pub returns-then-byte-lt-MORE : goal.returns-then-byte-lt-MORE
returns-then-byte-lt-MORE c =
    let l = c.loop-i in
    let i = l.i-iterator.count in
    let b = c.in-Some.byte.now in
    let s = c.in-Some.ensures.steps in
    let u : unlawful i b ≡ false = ap (λ j. unlawful j b) (sym s.1) ∙ sym c.if-misplaced.ensures in
    let e = ap (tail i) s.0.0 ∙ tail_last i b _ u c.if-byte-lt-MORE.true in
    let here = number_ends c.args.file.now c.args.start l.value l.scale i b (l.invariant.reads ∙ ap (lift l.value l.scale i) e) in
    let long = ap length s.0.0 in
    record { moves = (omega arith, omega arith); told = rw (c.from.ensures, s.1) here }

more_facts : (c : goal.After-from-in-loop-i) → (c.in-Some.i < 4) × (c.loop-i.value + c.from-in-loop-i.result * c.loop-i.scale < c.loop-i.scale * 128) × (c.loop-i.scale * 128 < 2 ^ 32) × (c.loop-i.scale * 128 ≡ 128 ^ (c.in-Some.i + 1))
more_facts c =
    let s = c.in-Some.ensures.steps in
    let b : c.in-Some.byte.now < 256 = search rules in
    let n = not_last c.in-Some.i c.in-Some.byte.now (sym c.if-misplaced.ensures) c.if-byte-lt-MORE.false (omega arith) in
    let p : c.loop-i.scale ≡ 128 ^ c.in-Some.i = rw s.1 c.loop-i.invariant.scaled in
    let g = grows_at c.in-Some.i c.loop-i.value c.from-in-loop-i.result c.loop-i.scale p n c.loop-i.invariant.small (omega arith) in
    (n, g.0, g.1, g.2)

pub overflow_mul-value : goal.overflow_mul-value
overflow_mul-value c = omega (arith, more_facts c)

pub overflow_add-value : goal.overflow_add-value
overflow_add-value c = omega (arith, more_facts c)

pub overflow_mul-scale : goal.overflow_mul-scale
overflow_mul-scale c = omega (arith, more_facts c)

pub loop-i-preserved : goal.loop-i-preserved
loop-i-preserved c =
    let l = c.loop-i in
    let i = l.i-iterator.count in
    let b = c.in-Some.byte.now in
    let s = c.in-Some.ensures.steps in
    let f = more_facts c in
    let u : unlawful i b ≡ false = ap (λ j. unlawful j b) (sym s.1) ∙ sym c.if-misplaced.ensures in
    let e = ap (tail i) s.0.0 ∙ tail_more i b _ u c.if-byte-lt-MORE.false in
    let d = l.invariant.reads ∙ ap (lift l.value l.scale i) e ∙ lift_more l.value l.scale i b _ in
    let long = ap length s.0.0 in
    record {
      few = omega arith;
      to_take = omega arith;
      scaled = rw (s.2, ← s.1) f.3;
      small = f.1;
      place = omega arith;
      reads = rw (c.from-in-loop-i.ensures, s.2) d;
    }
