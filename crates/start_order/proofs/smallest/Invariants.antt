-- Party by party; where none of the first seven lies on a circle, the last one does.
use Rattle.std.proofs.Common.{◌-◌, ◌≡◌}
use Rattle.rules.specs.Lists.{first, from}
use Rattle.rules.specs.Names.{parties}
use Rattle.start_order.specs.Answers.{relation_of}
use Rattle.start_order.proofs.smallest.Given as goal

abbrev pub invariant-loop-p : goal.invariant-loop-p
invariant-loop-p l = first (λ q. relation_of l.chains q q) (from l.p (8 - l.p)) ≡ first (λ q. relation_of l.chains q q) parties
