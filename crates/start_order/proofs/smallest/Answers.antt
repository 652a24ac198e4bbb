-- The first party from p on is p, or the first after it, or the last of all.
use Rattle.std.proofs.Common.{sym, ◌∙◌, ℕ, Bool, arith}
use Rattle.start_order.specs.Answers.{relation_of}
use Rattle.start_order.proofs.Turns.{first-here, first_on, last_one}
use Rattle.start_order.proofs.smallest.Goals as goal

pub returns-then-has : goal.returns-then-has
returns-then-has c =
    let wanted : ℕ → Bool = λ q. relation_of c.args.chains.now q q in
    sym c.loop-p.invariant ∙ first-here wanted c.loop-p.p 8 (omega arith) (sym c.has.ensures ∙ c.if-has.true)

pub loop-p-preserved : goal.loop-p-preserved
loop-p-preserved c =
    let wanted : ℕ → Bool = λ q. relation_of c.args.chains.now q q in
    sym (first_on wanted c.loop-p.p 8 (omega arith) (sym c.has.ensures ∙ c.if-has.false)) ∙ c.loop-p.invariant

pub returns : goal.returns
returns c = last_one (λ q. relation_of c.args.chains.now q q) c.loop-p.p (omega arith) c.loop-p.invariant c.requires
