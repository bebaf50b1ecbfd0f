use Rattle.std.proofs.Common.{sym}
use Rattle.group.specs.Group.{mate_of}
use Rattle.group.proofs.Tables.{not_some, pair_written}
use Rattle.group.proofs.Checks.{fine}
use Rattle.group.proofs.table.Group.pair.Goals as goal

pub invariant_of-self : goal.invariant_of-self
invariant_of-self c =
    let s = c.args.self.now in
    let ok = fine s.count (mate_of s) c.args.a c.args.b c.in_ok-check_pair.ensures in
    let w = pair_written s c.args.a ok.a_in c.args.b ok.b_in ok.differ (not_some _ (sym ok.a_free)) (not_some _ (sym ok.b_free)) in
    record { few = s.few; long = w.long; inside = w.inside; returned = w.returned }

pub returns-clause-mates : goal.returns-clause-mates
returns-clause-mates c =
    let s = c.args.self.now in
    let ok = fine s.count (mate_of s) c.args.a c.args.b c.in_ok-check_pair.ensures in
    (pair_written s c.args.a ok.a_in c.args.b ok.b_in ok.differ (not_some _ (sym ok.a_free)) (not_some _ (sym ok.b_free))).means
