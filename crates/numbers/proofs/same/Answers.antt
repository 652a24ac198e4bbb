-- At byte i what is left of both decides, since all before it is the same.
use Rattle.std.proofs.Common.{sym, ◌∙◌, arith}
use Rattle.numbers.proofs.Equal.{other_length, byte-agrees, byte-differs, none-differs}
use Rattle.numbers.proofs.same.Goals as goal

pub returns-then-a-b : goal.returns-then-a-b
returns-then-a-b c = sym (other_length c.args.a.now c.args.b.now c.if-a-b.true)

pub returns-then-x-b : goal.returns-then-x-b
returns-then-x-b c =
    sym (c.loop-i.invariant ∙ byte-differs c.args.a.now c.args.b.now c.loop-i.i c.loop-i-test.true (omega arith) c.if-x-b.true)

pub loop-i-preserved : goal.loop-i-preserved
loop-i-preserved c = c.loop-i.invariant ∙ byte-agrees c.args.a.now c.args.b.now c.loop-i.i c.loop-i-test.true (omega arith) c.if-x-b.false

pub returns : goal.returns
returns c = sym (c.loop-i.invariant ∙ none-differs c.args.a.now c.args.b.now c.loop-i.i (omega arith) (omega arith))
