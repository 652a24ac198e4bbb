-- Two digits, the first of them not 0, and a line feed.
use Rattle.std.proofs.Common.{arith}
use Rattle.roster_file.proofs.UsualLines.{two_stand}
use Rattle.roster_file.proofs.usual_number.Goals as goal

pub returns-in-49-to-57 : goal.returns-in-49-to-57
returns-in-49-to-57 c = two_stand c.args.text.now (omega arith) (omega arith) (omega arith) (omega arith) (omega arith) c.in-49-to-57.len_at_least (omega arith)
