-- `set_held` meets its contract: bit by bit, the set is what it has in common with what is held exactly if all of it is held.
use Rattle.rules.proofs.SetLaws.{held-and}
use Rattle.words.proofs.set_held.Goals as goal

pub returns : goal.returns
returns c = held-and c.args.set c.args.partitions c.ranges.set.fits
