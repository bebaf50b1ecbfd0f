use Rattle.std.proofs.Common.{◌≡◌, ℕ, ◌+◌, get_or, sym, ap, ◌∙◌, arith}
use Rattle.std.proofs.lemmas.List.{get_or_read}
use Rattle.length.proofs.Answered.{cases_map}
use Rattle.placement.specs.Rule.{middle}
use Rattle.group.specs.Arranged.{meaning_of}
use Rattle.placing.proofs.EdgeRoom.{edge_at}
use Rattle.placing.proofs.edges.edge_of.Goals as goal

pub returns : goal.returns
returns g c =
    let V = g.row.T.Denot in
    let k = g.T.Length.kind in
    let o = g.B.Book.order c.args.cells.now.book.now in
    let m = meaning_of c.args.cells.now in
    let widths = c.args.widths.now in
    let work = c.args.work.now in
    let a = c.args.a in
    let width : c.index-widths-a.result ≡ get_or widths a k.zero = get_or_read widths a _ (omega (arith, c.requires.cell, c.requires.widths)) c.index-widths-a.is _ in
    let before : c.index-work-a.result ≡ get_or work a k.zero = get_or_read work a _ (omega (arith, c.requires.cell, c.requires.work)) c.index-work-a.is _ in
    let after : c.index-work-count.result ≡ get_or work (o.count + a) k.zero =
    get_or_read work (c.count.result + a) _ (omega (arith, c.requires.cell, c.requires.work, c.count.ensures)) c.index-work-count.is _
    ∙ ap (λ (z : ℕ). get_or work (z + a) k.zero) c.count.ensures
    in
    let twice : V = middle k c.args.span c.index-widths-a.result c.index-work-a.result c.index-work-count.result in
    rw (sym width, sym before, sym after)
    (cases_map c.left_edge.result
    (λ none. none)
    (λ (x : V) so. edge_at k m a twice x c.rounds_up.result c.rounds_up.ensures so)
    c.left_edge.ensures)
