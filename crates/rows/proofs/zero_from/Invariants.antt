-- At each word, what is left of the row decides as the words from `from` on do.
use Rattle.std.proofs.Common.{◌≡◌, drop}
use Rattle.rules.specs.Lists.{all}
use Rattle.rules.specs.Words.{is_zero}
use Rattle.rows.proofs.zero_from.Given as goal

abbrev pub invariant-loop-i : goal.invariant-loop-i
invariant-loop-i l = all is_zero (drop l.i l.row) ≡ all is_zero (drop l.from l.row)
