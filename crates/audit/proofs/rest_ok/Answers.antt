-- A row of zeros leaves the rows past it to decide; past the last row no word is left.
use Rattle.std.proofs.Common.{ap}
use Rattle.std.proofs.Math.Bool.{not}
use Rattle.audit.proofs.Counting.{lent-row}
use Rattle.audit.proofs.Rest.{rest-goes-on}
use Rattle.audit.proofs.rest_ok.Goals as goal

pub loop-r-preserved : goal.loop-r-preserved
loop-r-preserved c =
    rest-goes-on c.args.space.now c.loop-r.r (lent-row c.args.space.now c.loop-r.r c.start-at.ensures) c.loop-r.invariant c.blank.ensures (ap not c.if-not-blank.false)
