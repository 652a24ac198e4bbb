-- `blank` meets its contract: the first two words decide where they are not 0, and else the other twelve, gathered into one.
use Rattle.rows.proofs.Zero.{twelve-decide}
use Rattle.rows.proofs.blank.Goals as goal

pub returns : goal.returns
returns c = twelve-decide c.args.row.now c.requires c.if-row-ne0.false
