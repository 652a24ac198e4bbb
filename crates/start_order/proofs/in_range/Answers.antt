-- The bits of one pair more are seen.
use Rattle.std.proofs.Common.{sym, ◌∙◌}
use Rattle.start_order.proofs.Turns.{one_seen}
use Rattle.start_order.proofs.in_range.Goals as goal

pub loop-pair-preserved : goal.loop-pair-preserved
loop-pair-preserved c =
    let l = c.loop-pair in
    sym (one_seen c.args.pairs.now l.pair-index l.seen c.loop-pair-test.true) ∙ l.invariant
