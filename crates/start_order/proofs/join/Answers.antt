-- One set more is joined, in its place.
use Rattle.std.proofs.Common.{ℕ, arith, get_or}
use Rattle.start_order.specs.Answers.{joined_by}
use Rattle.start_order.proofs.Turns.{map-turn}
use Rattle.start_order.proofs.join.Goals as goal

pub loop-set-preserved : goal.loop-set-preserved
loop-set-preserved c =
    let via : ℕ = get_or c.args.waits.now c.args.k 0 in
    map-turn (joined_by via c.args.k) c.args.waits.now c.loop-set.waits c.loop-set.set-index _ (omega arith) c.loop-set.invariant c.joined.ensures
