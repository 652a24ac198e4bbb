-- `pair_agrees` meets its contract: its three tests are the definition's.
use Rattle.search.proofs.LiveRows.{pair-by}
use Rattle.search.proofs.pair_agrees.Goals as goal

pub returns : goal.returns
returns c = pair-by c.args.head.now c.args.pair c.args.partitions c.args.cokey c.args.count _ c.sets_agree-shared.ensures
