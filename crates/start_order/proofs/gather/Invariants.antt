-- Pair by pair: the sets so far and the pairs to come make what all the pairs make.
use Rattle.std.proofs.Common.{◌≡◌, false, map, drop}
use Rattle.rules.specs.Lists.{any}
use Rattle.rules.specs.Words.{zeros}
use Rattle.start_order.specs.Pairs.{pair_of}
use Rattle.start_order.specs.Call.{above7}
use Rattle.start_order.specs.Answers.{gathered}
use Rattle.start_order.proofs.gather.Given as goal

abbrev pub invariant-loop-pair : goal.invariant-loop-pair
invariant-loop-pair l =
    record {
      so_far : gathered (zeros 8) (map pair_of l.pairs) ≡ gathered l.waits (map pair_of (drop l.pair-index l.pairs));
      in_range : any above7 (map pair_of (drop l.pair-index l.pairs)) ≡ false;
    }
