use Rattle.std.proofs.Common.{ℕ, ◌+◌, ◌-◌, List, vec_items, sym, ap, ◌∙◌}
use Rattle.formats.specs.declared.fields.Entry.{Entry}
use Rattle.formats.specs.Reading.{entry, entries}
use Rattle.reading.proofs.Turns.{entries_more, entries_fail, re_read}
use Rattle.reading.proofs.Exits.{refused_by}
use Rattle.reading.proofs.reader.Reader.entries.Goals as goal

pub returns-in_err-entry : goal.returns-in_err-entry
returns-in_err-entry c =
    let n = c.args.n in
    let told = c.in_err-entry.ensures in
    let here = re_read (λ (before : List Entry) (s : List ℕ). entry n before s c.loop.self.at) c.deref.ensures.value c.loop.invariant.0 told.told in
    record {
      same = told.same ∙ c.loop.invariant.0;
      told = refused_by _ _ _ _ c.from_residual.ensures.1 (c.loop.invariant.1 ∙ entries_fail n c.args.count c.loop.counter (vec_items c.loop.entries) c.args.self.now.bytes.now c.loop.self.at _ c.loop-test.true here);
    }

pub loop-preserved : goal.loop-preserved
loop-preserved c =
    let n = c.args.n in
    let file = c.args.self.now.bytes.now in
    let told = c.in_ok-entry.ensures in
    let here = re_read (λ (before : List Entry) (s : List ℕ). entry n before s c.loop.self.at) c.deref.ensures.value c.loop.invariant.0 told.told in (
      told.same ∙ c.loop.invariant.0,
      c.loop.invariant.1
          ∙ entries_more n c.args.count c.loop.counter (vec_items c.loop.entries) file c.loop.self.at c.in_ok-entry.entry _ c.loop-test.true here
          ∙ ap (λ (xs : List Entry). entries n (c.args.count - (c.loop.counter + 1)) xs file c.entry.new.self.at) (sym c.in_ok-push.ensures.items),
    )
