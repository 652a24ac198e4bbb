-- `head_ok` meets its contract: its tests are the definition's, the count's first. (The check finds it alone; with this a wrong test is refused at that test.)
use Rattle.rows.proofs.RowLaws.{count-first}
use Rattle.rows.proofs.head_ok.Goals as goal

pub returns : goal.returns
returns c = count-first c.args.row.now
