use Rattle.std.proofs.Common.{length, sym, ap, ◌∙◌, arith}
use Rattle.std.proofs.lemmas.List.{with_items_is}
use Rattle.jobs.proofs.NotRefused.{written_whole}
use Rattle.jobs.proofs.telling.placement_file.Goals as goal

pub returns : goal.returns
returns g c =
    with_items_is c.in_ok-bytes.bytes c.write_placement.new.out (omega (arith, c.write_placement.auto.out, c.deref_mut.ensures.len))
    ∙ written_whole c.args.lawful.now.lawful (ap length c.deref_mut.ensures.value ∙ sym c.in_ok-bytes.bytes.ok.0 ∙ c.in_ok-bytes.ensures.len ∙ c.size.ensures) c.write_placement.ensures
