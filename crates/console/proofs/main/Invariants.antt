-- Whenever the console is about to print, the next line begins within the input, and fewer bytes are left each time.
use Rattle.std.proofs.Common.{◌≤◌}
use Rattle.console.proofs.Turns.{Fine, left}
use Rattle.console.proofs.main.Given as goal

abbrev pub invariant-loop-turn : goal.invariant-loop-turn
invariant-loop-turn l = record {
  fits : l.turn.printed ≤ 256;
  fine : Fine l.turn.next l.space;
}

abbrev pub decreases-loop-turn : goal.decreases-loop-turn
decreases-loop-turn l = left l.turn.next
