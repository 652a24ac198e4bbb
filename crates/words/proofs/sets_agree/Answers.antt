-- `sets_agree` meets its contract: words have a bit in common exactly if the sets share a partition.
use Rattle.rules.proofs.SetLaws.{agree-and}
use Rattle.words.proofs.sets_agree.Goals as goal

pub returns : goal.returns
returns c = agree-and c.args.t c.args.e c.ranges.t.fits
