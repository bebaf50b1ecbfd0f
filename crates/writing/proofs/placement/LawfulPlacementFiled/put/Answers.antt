use Rattle.std.proofs.Common.{List, map, length, vec_items, ap, ap₂, arith}
use Rattle.std.proofs.lemmas.List.{length-map}
use Rattle.formats.specs.Files.{by_cell}
use Rattle.formats.specs.Held.{placement_fields}
use Rattle.writing.proofs.PutTogether.{puts_join, puts_place, puts_same, few_listed}
use Rattle.writing.proofs.LawfulJobs.{placement_few}
use Rattle.writing.proofs.placement.LawfulPlacementFiled.put.Goals as goal

pub length-requires-2 : goal.length-requires-2
length-requires-2 g c =
    let few = few_listed g.T.Numbered.numbers g.met.T.Length.counted g.met.T.Numbered.listed in
    omega (arith, puts_place c.number.ensures, puts_place c.number-2.ensures, puts_place c.number-3.ensures, puts_place c.length.ensures, few c.args.self.now.placement.now.half_span)

pub columns-requires : goal.columns-requires
columns-requires g c =
    let p = c.args.self.now.placement.now in
    let few = few_listed g.T.Numbered.numbers g.met.T.Length.counted g.met.T.Numbered.listed in
    omega (arith, puts_place c.number.ensures, puts_place c.number-2.ensures, puts_place c.number-3.ensures, puts_place c.length.ensures, few p.half_span, puts_place c.length-2.ensures, few p.depth, placement_few (placement_fields g.T.Numbered.numbers p) c.args.self.now.lawful, length-map (vec_items p.x) g.T.Numbered.numbers, ap length c.deref.ensures.value)

pub returns : goal.returns
returns g c =
    let V = g.row.T.Denot in
    let numbers = g.T.Numbered.numbers in
    let cells = puts_same (ap₂ (λ (xs ys : List V). by_cell (map numbers xs) (map numbers ys)) c.deref.ensures.value c.deref-2.ensures.value) c.columns.ensures in
    puts_join c.number.ensures (puts_join c.number-2.ensures (puts_join c.number-3.ensures (puts_join c.length.ensures (puts_join c.length-2.ensures cells))))
