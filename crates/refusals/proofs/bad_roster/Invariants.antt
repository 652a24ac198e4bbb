-- Past the test of the length, the key words that are left decide as all eight do.
use Rattle.std.proofs.Common.{◌≡◌, ℕ, Bool, not, drop}
use Rattle.rules.specs.Lists.{all}
use Rattle.rules.specs.Names.{bit}
use Rattle.refusals.proofs.bad_roster.Given as goal

abbrev pub clear : ℕ → Bool
clear w = not (bit w 63)

abbrev pub invariant-loop-keys : goal.invariant-loop-keys
invariant-loop-keys l = all clear (drop l.keys-index (drop 8 l.roster)) ≡ all clear (drop 8 l.roster)
