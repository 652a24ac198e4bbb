-- By the bytes before the name: a party and a blank.
use Rattle.std.proofs.Common.{arith, refl}
use Rattle.roster_file.proofs.UsualLines.{first_two, line-at}
use Rattle.roster_file.proofs.usual_line.Goals as goal

pub returns-in-48-to-55 : goal.returns-in-48-to-55
returns-in-48-to-55 c =
    line-at c.args.lines.now _ _ _ (omega arith) (omega arith) (first_two c.args.lines.now _ 32 c.in-48-to-55.len_at_least refl (omega arith))
    c.usual_name.ensures
