use Rattle.book.proofs.Holding.{join_holds}
use Rattle.book.proofs.slicing.Waiting.join.Goals as goal

pub returns : goal.returns
returns c p q ps h = join_holds p q ps c.args.self.now h c.pop.new.self c.pop.ensures.rest
