-- At i the first i words are those 14 further on, and the rest are as they were.
use Rattle.std.proofs.Common.{length, ◌≡◌, ◌++◌, take, drop}
use Rattle.edits.proofs.close_up.Given as goal

abbrev pub invariant-loop-i : goal.invariant-loop-i
invariant-loop-i l = record {
  same_length : length l.part ≡ length l.initial.part;
  moved : l.part ≡ take l.i (drop 14 l.initial.part) ++ drop l.i l.initial.part;
}
