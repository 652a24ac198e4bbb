-- `write_row` meets its contract: six words, the fields, and 0 past them.
use Rattle.std.proofs.Common.{length}
use Rattle.edits.proofs.Written.{written}
use Rattle.edits.proofs.write_row.Goals as goal

pub returns : goal.returns
returns c =
    let e = c.args.entry in
    written e.writer e.read.partitions e.read.key e.take.partitions e.take.key (length e.fields.now) c.args.row.now e.fields.now _ _ c.requires.0 c.requires.1
    c.copy_in.ensures c.clear.ensures
