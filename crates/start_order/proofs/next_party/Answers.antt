-- The first party from p on is p, or the first after it, or there is none.
use Rattle.std.proofs.Common.{sym, ap, ◌∙◌, Bool, ℕ, arith}
use Rattle.rules.specs.Names.{bit}
use Rattle.refusal.specs.Given.{given}
use Rattle.start_order.specs.Order.{ready}
use Rattle.start_order.specs.Answers.{relation_of}
use Rattle.start_order.proofs.Turns.{first-here, first_on, first-end}
use Rattle.start_order.proofs.next_party.Goals as goal

pub returns-then-is_ready : goal.returns-then-is_ready
returns-then-is_ready c =
    let wanted : ℕ → Bool = ready (relation_of c.args.waits.now) (bit c.args.placed) in
    ap given (sym (first-here wanted c.loop-p.p 8 (omega arith) (sym c.is_ready.ensures ∙ c.if-is_ready.true)) ∙ c.loop-p.invariant)

pub loop-p-preserved : goal.loop-p-preserved
loop-p-preserved c =
    let wanted : ℕ → Bool = ready (relation_of c.args.waits.now) (bit c.args.placed) in
    sym (first_on wanted c.loop-p.p 8 (omega arith) (sym c.is_ready.ensures ∙ c.if-is_ready.false)) ∙ c.loop-p.invariant

pub returns : goal.returns
returns c =
    let wanted : ℕ → Bool = ready (relation_of c.args.waits.now) (bit c.args.placed) in
    ap given (sym (first-end wanted c.loop-p.p 8 (omega arith)) ∙ c.loop-p.invariant)
