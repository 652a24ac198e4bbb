-- The words hold the pairs of the lines so far, and the rest is left: line by line what both come to stays the same.
use Rattle.std.proofs.Common.{◌≡◌, ◌≤◌, length}
use Rattle.order_file.proofs.Files.{Got}
use Rattle.order_file.proofs.read_pairs.Given as goal

abbrev pub invariant-loop-line : goal.invariant-loop-line
invariant-loop-line l = record { room : length l.words ≡ 65; few : l.n ≤ 65; got : Got l.lines l.rest l.n l.words }

abbrev pub decreases-loop-line : goal.decreases-loop-line
decreases-loop-line l = length l.rest
