-- A turn moves one word more.
use Rattle.std.proofs.Common.{arith, length-set}
use Rattle.edits.proofs.Store.{move-more}
use Rattle.edits.proofs.close_up.Goals as goal

pub loop-i-preserved : goal.loop-i-preserved
loop-i-preserved c = record {
  same_length = simp length-set c.loop-i.invariant.same_length;
  moved = move-more c.args.part.now c.loop-i.part c.loop-i.i 14 c.loop-i.invariant.moved (omega arith);
}
