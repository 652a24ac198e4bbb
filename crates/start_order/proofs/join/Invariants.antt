-- The first sets are joined, and the rest are as they were.
use Rattle.std.proofs.Common.{◌≡◌, ◌++◌, map, take, drop}
use Rattle.start_order.specs.Answers.{joined_by}
use Rattle.start_order.proofs.join.Given as goal

abbrev pub invariant-loop-set : goal.invariant-loop-set
invariant-loop-set l = l.waits ≡ take l.set-index (map (joined_by l.via l.k) l.fn.waits) ++ drop l.set-index l.fn.waits
