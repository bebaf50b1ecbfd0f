use Rattle.std.proofs.Common.{sym, ap, ◌∙◌, subst}
use Rattle.book.specs.Order.{SameOrder}
use Rattle.book.specs.Turns.{turned}
use Rattle.book.specs.Turned.{turned_back}
use Rattle.book.proofs.layers.turned_twice.Goals as goal

pub returns : goal.returns
returns g c =
    let book = c.args.book in
    let o = g.B.Book.order in
    let f = g.T.Turning.turn in
    subst (λ x. SameOrder (o book) (turned f (turned f (o x)))) (sym (ap (λ x. x.book) c.new-2.ensures ∙ c.new.ensures))
    (turned_back g.met.T.Turning.lawful (o book) (g.met.B.Book.lawful book))
