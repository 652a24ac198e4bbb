-- At k the sets have the chains by way of parties below k.
use Rattle.std.proofs.Common.{◌≡◌}
use Rattle.start_order.specs.Pairs.{chain}
use Rattle.start_order.specs.Answers.{relation_of}
use Rattle.start_order.proofs.close.Given as goal

abbrev pub invariant-loop-k : goal.invariant-loop-k
invariant-loop-k l = relation_of l.waits ≡ chain (relation_of l.fn.waits) l.k
