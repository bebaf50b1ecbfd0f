use Rattle.std.proofs.Common.{refl, arith}
use Rattle.book.specs.Order.{most_cells}
use Rattle.group.proofs.Tables.{all_free, none_not_some}
use Rattle.group.proofs.table.Group.new.Goals as goal

pub invariant_of-result : goal.invariant_of-result
invariant_of-result g c =
    let laws = g.met.B.Book.lawful c.args.book.now in
    record {
      few = omega (arith, laws.few, c.count.ensures);
      long = refl;
      inside = λ x y e. absurd (none_not_some (all_free most_cells x) e);
      returned = λ x y e. absurd (none_not_some (all_free most_cells x) e);
    }

pub returns : goal.returns
returns g c = record { count = c.count.ensures; mates = λ x. all_free most_cells x }
