-- Party by party: the first of those from p on that is ready is the first of all.
use Rattle.std.proofs.Common.{◌-◌, ◌≡◌}
use Rattle.rules.specs.Lists.{first, from}
use Rattle.rules.specs.Names.{bit}
use Rattle.start_order.specs.Order.{ready, next}
use Rattle.start_order.specs.Answers.{relation_of}
use Rattle.start_order.proofs.next_party.Given as goal

abbrev pub invariant-loop-p : goal.invariant-loop-p
invariant-loop-p l = first (ready (relation_of l.waits) (bit l.placed)) (from l.p (8 - l.p)) ≡ next (relation_of l.waits) (bit l.placed)
