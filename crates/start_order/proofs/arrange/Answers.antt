-- One place more is taken, or none can be.
use Rattle.std.proofs.Common.{◌≡◌, refl, sym, ◌∙◌, subst, ℕ, ◌+◌, slice_set}
use Rattle.std.proofs.Math.Option.{none, some}
use Rattle.rules.specs.Names.{bit}
use Rattle.start_order.specs.Pairs.{Relation}
use Rattle.start_order.specs.Order.{next}
use Rattle.start_order.specs.Answers.{relation_of}
use Rattle.refusal.proofs.Given.{not-given, was-given}
use Rattle.start_order.proofs.Turns.{Placing, none-placed, one_placed, stuck, all-taken}
use Rattle.start_order.proofs.arrange.Goals as goal
use lib.ListN.{length-set}

pub loop-place-init : goal.loop-place-init
loop-place-init c = record { eight = refl; placing = none-placed _ _ }

pub returns-in_err-p : goal.returns-in_err-p
returns-in_err-p c =
    let l = c.loop-place in
    let none-next : next (relation_of c.args.waits.now) (bit l.placed) ≡ none = not-given _ (sym c.in_err-p.was ∙ c.next_party.ensures) in
    c.from_residual.ensures ∙ stuck (relation_of c.args.waits.now) l.place-items l.placed l.place-index c.loop-place-test.true l.invariant.eight l.invariant.placing none-next

pub loop-place-preserved : goal.loop-place-preserved
loop-place-preserved c =
    let R : Relation = relation_of c.args.waits.now in
    let l = c.loop-place in
    let is-next : next R (bit l.placed) ≡ some c.in_ok-p.p = was-given _ c.in_ok-p.p (sym c.in_ok-p.was ∙ c.next_party.ensures) in
    record {
      eight = simp length-set l.invariant.eight;
      placing =
          subst (λ (w : ℕ). Placing R (slice_set l.place-items l.place-index c.in_ok-p.p) w (l.place-index + 1)) (sym c.with-placed.ensures)
          (one_placed R l.place-items l.placed l.place-index c.loop-place-test.true l.invariant.eight l.invariant.placing c.in_ok-p.p is-next);
    }

pub returns : goal.returns
returns c =
    let l = c.loop-place in
    all-taken (relation_of c.args.waits.now) l.place-items l.placed l.place-index c.loop-place-test.false l.auto.place-index-end l.invariant.eight l.invariant.placing
