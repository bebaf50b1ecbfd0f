use Rattle.std.proofs.Common.{◌≡◌, ◌+◌, ◌<◌, ◌++◌, length, sym, ap, ◌∙◌, rules, arith}
use Rattle.std.proofs.lemmas.List.{length_push}
use Rattle.std.proofs.lemmas.Slice.Zip.{zip_turn, zip_end}
use Rattle.writing.proofs.PutTogether.{puts_join, puts_place, puts_same, cells, cells_more, cells_all, cells_place, few_listed}
use Rattle.writing.proofs.pen.Pen.columns.Goals as goal
use Rattle.writing.proofs.pen.Pen.columns.Goals.{In-Some}
use Rattle.writing.proofs.pen.Pen.columns.Given.{Over}

-- this turn puts the lengths of one cell more
turn : (g : Over) (c : In-Some g) → (length c.loop-first.yielded < length c.args.firsts.now) × (cells g.T.Numbered.numbers c.args.firsts.now c.args.seconds.now (length c.loop-first.yielded) ++ (g.T.Numbered.numbers c.in-Some.first.now ++ g.T.Numbered.numbers c.in-Some.second.now) ≡ cells g.T.Numbered.numbers c.args.firsts.now c.args.seconds.now (length c.loop-first.yielded + 1))
turn g c =
    let xs = c.args.firsts.now in
    let ys = c.args.seconds.now in
    let i = length c.loop-first.yielded in
    let t = zip_turn xs ys c.loop-first.yielded _ _ c.next.new.self _ (cc) (cc) c.loop-first.yielded_by _ c.in-Some.is c.next.ensures.steps in
    (t.0, cells_more g.T.Numbered.numbers xs ys i c.in-Some.first.now c.in-Some.second.now t.0 t.1 (t.2 _) (t.3 _))

pub length-requires : goal.length-requires
length-requires g c =
    let numbers = g.T.Numbered.numbers in
    let few = few_listed numbers g.met.T.Length.counted g.met.T.Numbered.listed in
    let here = (turn g (goal.at.length-requires g c).In-Some).0 in
    omega (arith, here, cells_place numbers few c.args.firsts.now c.args.seconds.now _ c.loop-first.invariant.put)

pub length-requires-in-loop-first : goal.length-requires-in-loop-first
length-requires-in-loop-first g c =
    let numbers = g.T.Numbered.numbers in
    let few = few_listed numbers g.met.T.Length.counted g.met.T.Numbered.listed in
    let here = (turn g (goal.at.length-requires-in-loop-first g c).In-Some).0 in
    omega (arith, here, cells_place numbers few c.args.firsts.now c.args.seconds.now _ c.loop-first.invariant.put, puts_place c.length.ensures, few c.in-Some.first.now)

pub loop-first-preserved : goal.loop-first-preserved
loop-first-preserved g c =
    let here = (turn g (goal.at.loop-first-preserved g c).In-Some).1 in
    record {
      can_next = search rules;
      is_finite = search rules;
      put =
          puts_same
          (here ∙ ap (cells g.T.Numbered.numbers c.args.firsts.now c.args.seconds.now) (sym (length_push c.loop-first.yielded (c.in-Some.first, c.in-Some.second))))
          (puts_join c.loop-first.invariant.put (puts_join c.length.ensures c.length-in-loop-first.ensures));
    }

pub returns : goal.returns
returns g c =
    let xs = c.args.firsts.now in
    let ys = c.args.seconds.now in
    let e = zip_end xs ys c.loop-first.yielded _ _ c.next.new.self _ (cc) (cc) c.loop-first.yielded_by c.in-None.is c.next.ensures.steps in
    puts_same (cells_all g.T.Numbered.numbers xs ys _ (omega (arith, e))) c.loop-first.invariant.put
