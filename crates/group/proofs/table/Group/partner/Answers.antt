use Rattle.std.proofs.Common.{sym}
use Rattle.group.proofs.Tables.{free_outside}
use Rattle.group.proofs.table.Group.partner.Goals as goal

pub returns-then-a-self : goal.returns-then-a-self
returns-then-a-self c = sym (free_outside c.args.self.now.count c.args.self.now.partner c.args.a c.args.self.now.inside c.if-a-self.true)
