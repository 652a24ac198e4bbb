-- `charge_of` meets its contract: at each row, what is counted so far and what is left make the whole.
use Rattle.audit.proofs.Counting.{Counting}
use Rattle.audit.proofs.charge_of.Given as goal

abbrev pub invariant-loop-r : goal.invariant-loop-r
invariant-loop-r l = Counting l.space l.charges l.r
