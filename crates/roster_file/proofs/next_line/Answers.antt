-- A usual line is a first line, and any other is read by its items.
use Rattle.roster_file.proofs.UsualLines.{right-first}
use Rattle.roster_file.proofs.next_line.Goals as goal

pub returns-in-Some : goal.returns-in-Some
returns-in-Some c = right-first _ _ _ c.in-Some.ensures
