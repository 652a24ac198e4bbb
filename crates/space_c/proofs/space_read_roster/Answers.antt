-- `space_read_roster` meets its contract: by the number of lent words, and then by the reader's answer.
use Rattle.space_c.proofs.Files.{other_length, read-code}
use Rattle.space_c.proofs.space_read_roster.Goals as goal

pub returns-then-roster-ne16 : goal.returns-then-roster-ne16
returns-then-roster-ne16 c = rw c.refused.ensures (other_length c.args.file.now c.args.roster.now c.if-roster-ne16.true)

pub returns : goal.returns
returns c =
    read-code c.args.file.now c.args.roster.now c.if-roster-ne16.false c.read_roster.result c.read_roster.new.roster c.read_roster.ensures c.done.result c.done.ensures
