use Rattle.std.proofs.Common.{ℕ, ◌+◌, ◌-◌, List, vec_items, sym, ap, ◌∙◌}
use Rattle.formats.specs.Rules.{fits}
use Rattle.formats.specs.Reading.{list, misordered, order_number_at}
use Rattle.reading.proofs.Turns.{list_more, list_fails, re_read}
use Rattle.reading.proofs.Exits.{refused_by}
use Rattle.reading.proofs.reader.Reader.order_list.Goals as goal

pub returns-in_err-number : goal.returns-in_err-number
returns-in_err-number c =
    let kind = c.args.kind in
    let n = c.args.n in
    let l = c.args.list in
    let file = c.args.self.now.bytes.now in
    let told = c.in_err-number.ensures in
    let here = re_read (λ (before : List ℕ) (s : List ℕ). order_number_at kind n l before s c.loop.self.at) c.deref.ensures.value c.loop.invariant.0 told.told in
    record {
      same = told.same ∙ c.loop.invariant.0;
      told = refused_by _ _ _ _ c.from_residual.ensures.1 (c.loop.invariant.1 ∙ list_fails (fits kind n) (misordered l) c.args.size c.loop.counter (vec_items c.loop.numbers) file c.loop.self.at _ c.loop-test.true here);
    }

pub loop-preserved : goal.loop-preserved
loop-preserved c =
    let kind = c.args.kind in
    let n = c.args.n in
    let l = c.args.list in
    let file = c.args.self.now.bytes.now in
    let told = c.in_ok-number.ensures in
    let here = re_read (λ (before : List ℕ) (s : List ℕ). order_number_at kind n l before s c.loop.self.at) c.deref.ensures.value c.loop.invariant.0 told.told in (
      told.same ∙ c.loop.invariant.0,
      c.loop.invariant.1
          ∙ list_more (fits kind n) (misordered l) c.args.size c.loop.counter (vec_items c.loop.numbers) file c.loop.self.at c.in_ok-number.number _ c.loop-test.true here
          ∙ ap (λ (xs : List ℕ). list (fits kind n) (misordered l) (c.args.size - (c.loop.counter + 1)) xs file c.order_number.new.self.at) (sym c.in_ok-push.ensures.items),
    )
