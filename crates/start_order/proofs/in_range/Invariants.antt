-- Pair by pair: the bits seen so far and the pairs to come tell whether a party is above 7.
use Rattle.std.proofs.Common.{◌≡◌, ◌||◌, map, drop}
use Rattle.rules.specs.Lists.{any}
use Rattle.start_order.specs.Pairs.{pair_of}
use Rattle.start_order.specs.Call.{above7}
use Rattle.start_order.proofs.in_range.Given as goal

abbrev pub invariant-loop-pair : goal.invariant-loop-pair
invariant-loop-pair l = (above7 (pair_of l.seen) || any above7 (map pair_of (drop l.pair-index l.pairs))) ≡ any above7 (map pair_of l.pairs)
