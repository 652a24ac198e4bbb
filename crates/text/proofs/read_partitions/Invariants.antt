-- At a part the partitions before it are in the set, and the parts that are left decide.
use Rattle.text.proofs.SetReading.{Joining}
use Rattle.text.proofs.read_partitions.Given as goal

abbrev pub invariant-loop-part : goal.invariant-loop-part
invariant-loop-part l = Joining (goal.iterator-loop-part).next_gives l.text l.set l.least l.part-iterator
