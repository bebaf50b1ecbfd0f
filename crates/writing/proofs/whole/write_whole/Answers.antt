use Rattle.std.proofs.Common.{rules}
use Rattle.writing.proofs.FilesWritten.{written_short, written_whole}
use Rattle.writing.proofs.whole.write_whole.Goals as goal

pub returns-then-out-needed : goal.returns-then-out-needed
returns-then-out-needed g c =
    written_short (g.F.Filed.numbers c.args.file.now) c.size_of-needed.result c.size_of-needed.ensures c.args.out.now c.if-out-needed.true

pub returns : goal.returns
returns g c =
    written_whole (g.F.Filed.numbers c.args.file.now) c.size_of-needed.result c.size_of-needed.ensures c.new-pen.result c.put.new.pen c.new-pen.ensures.out c.new-pen.ensures.start c.if-out-needed.false c.put.ensures (search rules)
