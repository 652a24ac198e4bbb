-- Place by place: the places so far and the rest of the order make the order.
use Rattle.std.proofs.Common.{◌≡◌, length}
use Rattle.start_order.specs.Answers.{relation_of}
use Rattle.start_order.proofs.Turns.{Placing}
use Rattle.start_order.proofs.arrange.Given as goal

abbrev pub invariant-loop-place : goal.invariant-loop-place
invariant-loop-place l = record { eight : length l.place-items ≡ 8; placing : Placing (relation_of l.waits) l.place-items l.placed l.place-index }
