use Rattle.sheet.proofs.Released.{released_sound, release_outcome}
use Rattle.sheet.proofs.sheet.Sheet.release.Goals as goal

pub invariant_of-self : goal.invariant_of-self
invariant_of-self g c =
    let s = c.args.self.now in
    record { sound = released_sound (g.B.Book.order s.book) s.group c.release.new.self c.args.a s.sound c.release.ensures.count c.release.result c.release.ensures.mates }

pub returns : goal.returns
returns g c =
    let s = c.args.self.now in
    release_outcome (g.B.Book.order s.book) s.group c.release.new.self c.args.a s.sound c.release.ensures.count c.clean_exactly_placeable.ensures (g.met.B.Book.lawful s.book) c.release.result c.release.ensures.answer c.release.ensures.mates
