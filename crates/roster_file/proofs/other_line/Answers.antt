-- The line up to the line feed, by its items.
use Rattle.roster_file.proofs.Files.{line-first}
use Rattle.roster_file.proofs.other_line.Goals as goal

pub returns : goal.returns
returns c =
    let e = c.in_ok-line.ensures.ok_part in
    line-first c.args.lines.now _ c.in_ok-line.rest.now _ (rw e at c.split_once.ensures.parts) (rw e at c.split_once.ensures.lengths) c.in_ok-right.ensures
