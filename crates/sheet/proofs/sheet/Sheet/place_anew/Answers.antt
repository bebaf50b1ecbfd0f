use Rattle.std.proofs.Common.{length, ap, arith}
use Rattle.std.proofs.lemmas.List.{with_items_is}
use Rattle.group.specs.Group.{sheet_of}
use Rattle.sheet.proofs.Anew.{anew_placed, anew_refused}
use Rattle.sheet.proofs.sheet.Sheet.place_anew.Goals as goal

pub returns-in-Ok : goal.returns-in-Ok
returns-in-Ok g c =
    let m = sheet_of (g.B.Book.order c.args.self.now.book) c.args.self.now.group in
    let work_is = with_items_is c.in_ok-work.work c.place.new.work (omega (arith, c.place.auto.work, c.deref_mut.ensures.len)) in
    let x_is = with_items_is c.in_ok-x.x c.place.new.x (omega (arith, c.place.auto.x, c.deref_mut-2.ensures.len)) in
    let y_is = with_items_is c.in_ok-y.y c.place.new.y (omega (arith, c.place.auto.y, c.deref_mut-3.ensures.len)) in
    record {
      filled = record {
        work_length = omega (arith, ap length work_is, c.place.auto.work, ap length c.deref_mut.ensures.value, c.in_ok-work.ensures, c.count-n.ensures);
        x_length = omega (arith, ap length x_is, c.place.auto.x, ap length c.deref_mut-2.ensures.value, c.in_ok-x.ensures, c.count-n.ensures);
        y_length = omega (arith, ap length y_is, c.place.auto.y, ap length c.deref_mut-3.ensures.value, c.in_ok-y.ensures, c.count-n.ensures);
      };
      anew =
          anew_placed g.T.Length.kind m c.args.widths.now c.args.heights.now c.deref_mut.result.now c.deref_mut-2.result.now c.deref_mut-3.result.now c.place.new.work c.place.new.x c.place.new.y
          (omega (arith, ap length c.deref_mut.ensures.value, c.in_ok-work.ensures, c.count-n.ensures))
          (omega (arith, ap length c.deref_mut-2.ensures.value, c.in_ok-x.ensures, c.count-n.ensures))
          (omega (arith, ap length c.deref_mut-3.ensures.value, c.in_ok-y.ensures, c.count-n.ensures))
          _
          work_is
          x_is
          y_is
          c.in-Ok.ensures;
    }

pub returns-in-Err : goal.returns-in-Err
returns-in-Err g c =
    let m = sheet_of (g.B.Book.order c.args.self.now.book) c.args.self.now.group in
    record {
      filled = tt;
      anew =
          anew_refused g.T.Length.kind m c.args.widths.now c.args.heights.now c.deref_mut.result.now c.deref_mut-2.result.now c.deref_mut-3.result.now c.place.new.work c.place.new.x c.place.new.y
          (omega (arith, ap length c.deref_mut.ensures.value, c.in_ok-work.ensures, c.count-n.ensures))
          (omega (arith, ap length c.deref_mut-2.ensures.value, c.in_ok-x.ensures, c.count-n.ensures))
          (omega (arith, ap length c.deref_mut-3.ensures.value, c.in_ok-y.ensures, c.count-n.ensures))
          c.in-Err.fault c.in-Err.ensures;
    }
