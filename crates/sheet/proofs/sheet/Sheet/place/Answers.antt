use Rattle.sheet.proofs.sheet.Sheet.place.Goals as goal

pub returns : goal.returns
returns g c = let s = c.args.self.now in c.place.ensures s.sound.counts s.sound.clean
