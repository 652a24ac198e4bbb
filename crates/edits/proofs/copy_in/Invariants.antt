-- At i the first i words are those of the source, and the rest are as they were.
use Rattle.std.proofs.Common.{length, ◌≡◌, ◌++◌, take, drop}
use Rattle.edits.proofs.copy_in.Given as goal

abbrev pub invariant-loop-i : goal.invariant-loop-i
invariant-loop-i l = record {
  same_length : length l.dst ≡ length l.initial.dst;
  copied : l.dst ≡ take l.i l.src ++ drop l.i l.initial.dst;
}
