use Rattle.std.proofs.Common.{ℕ, ◌+◌, sym, subst}
use Rattle.group.specs.Arranged.{meaning_of, count_of}
use Rattle.group.proofs.LawfulSheet.{lawful_arranged}
use Rattle.placing.specs.Edges.{RoomForAll}
use Rattle.placing.specs.Sizes.{entries}
use Rattle.placing.proofs.RoomAcross.{room_for_all}
use Rattle.placing.proofs.values.give.Goals as goal

pub returns-in_err-depth : goal.returns-in_err-depth
returns-in_err-depth g c = rw c.from_residual.ensures (λ clean sized. c.in_err-depth.ensures clean sized.high)

pub returns-in_err-longest : goal.returns-in_err-longest
returns-in_err-longest g c = rw c.from_residual-in_err-longest.ensures (λ clean sized. c.in_err-longest.ensures.finishes clean sized.wide)

pub returns-in_err-left_edges : goal.returns-in_err-left_edges
returns-in_err-left_edges g c =
    let V = g.row.T.Denot in
    let k = g.T.Length.kind in
    let cells = c.args.cells.now in
    let lawful = lawful_arranged cells (g.met.B.Book.lawful cells.book.now) in
    let w = entries k c.args.widths.now in
    let before = entries k c.chains.new.work in
    let after : ℕ → V = λ a. before (count_of cells + a) in
    let across = c.in_ok-longest.ensures in
    rw c.from_residual-in_err-left_edges.ensures
    (λ clean sized.
    c.in_err-left_edges.ensures
    (subst (λ (half : V). RoomForAll k (meaning_of cells) w before after half) (sym c.upper_half-half_span.ensures)
    (room_for_all g.met.T.Length.laws lawful sized across.found (across.finishes clean sized.wide))))

pub returns : goal.returns
returns g c =
    let down = c.in_ok-depth.ensures in
    let across = c.in_ok-longest.ensures.found in
    let edges = c.in_ok-left_edges.ensures in
    record {
      longest = c.in_ok-longest.longest;
      longest_is = across.longest_is;
      half_is = c.upper_half-half_span.ensures;
      before_is = across.before_is;
      after_is = across.after_is;
      up = λ a here. (edges.each a here).up;
      down = λ a here. (edges.each a here).down;
      bottoms = down.bottoms;
      depth_is = down.depth_is;
    }
