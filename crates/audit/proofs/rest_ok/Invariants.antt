-- At each row, the words from there on decide as those past the live rows do.
use Rattle.std.proofs.Common.{◌≡◌}
use Rattle.audit.proofs.Rest.{zero_from}
use Rattle.audit.proofs.rest_ok.Given as goal

abbrev pub invariant-loop-r : goal.invariant-loop-r
invariant-loop-r l = zero_from l.space l.r ≡ zero_from l.space l.n
