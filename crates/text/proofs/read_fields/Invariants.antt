-- At a part the fields before it are read and written, and the parts that are left decide.
use Rattle.text.proofs.ListReading.{Reading}
use Rattle.text.proofs.read_fields.Given as goal

abbrev pub invariant-loop-part : goal.invariant-loop-part
invariant-loop-part l = Reading (goal.iterator-loop-part).next_gives l.text l.initial.fields l.fields l.n l.part-iterator
