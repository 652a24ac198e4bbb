-- Each turn begins further on in the input, and its number is not above the bytes before it.
use Rattle.std.proofs.Common.{arith}
use Rattle.std.proofs.lemmas.List.{length-take}
use Rattle.rules.specs.Words.{zeros}
use Rattle.numbers.proofs.Placing.{written-fits}
use Rattle.console.proofs.Turns.{turn-fine}
use Rattle.console.proofs.main.Goals as goal

pub loop-turn-init : goal.loop-turn-init
unfolding zeros
loop-turn-init c =
    let l = length-take c.read_full-n.result c.read_full-n.new.buf in
    record {
      fits = omega (arith, written-fits c.begin-turn.ensures.turned.written, c.begin-turn.auto.out);
      fine = turn-fine _ 1 0 _ c.begin-turn.result.next c.begin-turn.ensures.onward (omega (arith, l, c.if-n-gt65536.false)) (omega arith);
    }

pub loop-turn-preserved : goal.loop-turn-preserved
loop-turn-preserved c =
    let t = c.take_turn-turn in
    let before = rw c.in-Some.is at c.loop-turn.invariant.fine in
    record {
      fits = omega (arith, written-fits t.ensures.turned.written, t.auto.out);
      fine = turn-fine _ _ _ _ t.result.next t.ensures.onward before.0 before.2;
    }
