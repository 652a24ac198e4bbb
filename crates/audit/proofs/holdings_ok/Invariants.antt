-- At each key word, those that are left decide as all of them do.
use Rattle.std.proofs.Common.{◌≡◌, take, drop}
use Rattle.rules.specs.Lists.{all}
use Rattle.audit.proofs.HoldingLaws.{good}
use Rattle.audit.proofs.holdings_ok.Given as goal

abbrev pub invariant-loop-keys : goal.invariant-loop-keys
invariant-loop-keys l = all good (drop l.keys-index (take 8 (drop 9 l.space))) ≡ all good (take 8 (drop 9 l.space))
