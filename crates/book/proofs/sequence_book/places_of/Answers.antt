use Rattle.book.proofs.Tables.{table_none}
use Rattle.book.proofs.sequence_book.places_of.Goals as goal

pub loop-i-init : goal.loop-i-init
loop-i-init c = table_none c.args.n c.args.row.now
