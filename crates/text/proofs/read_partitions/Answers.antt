-- At a part the partitions before it are in the set, and the parts that are left decide.
use Rattle.std.proofs.Common.{rules, tests, refl, sym, ap, ◌∙◌}
use Rattle.std.specs.Result.{result_ok}
use Rattle.refusal.proofs.Given.{not-given, was-given}
use Rattle.numbers.proofs.Splits.{split-parts}
use Rattle.text.specs.Partitions.{read_partitions}
use Rattle.text.proofs.Numbers.{ok-natural}
use Rattle.text.proofs.SetReading.{joined-all, stopped, falling, joining-on}
use Rattle.text.proofs.read_partitions.Goals as goal

pub loop-part-init : goal.loop-part-init
unfolding read_partitions
loop-part-init c =
    let split = c.split-part-items.ensures in
    rw c.into_iter-part-iterator.ensures.into_iter_gives record {
      left = _;
      come = split-parts _ 58 c.args.text.now split.rest split.done split.closure (λ x b q k. search (rules, tests));
      whole = refl;
    }

pub returns-in_err-c : goal.returns-in_err-c
returns-in_err-c c =
    let read = c.ok.ensures.value ∙ ap result_ok c.read_natural.ensures.value ∙ ok-natural 63 _ in
    c.from_residual.ensures ∙ stopped c.loop-part.invariant c.next.new.self c.in-Some.part c.in-Some.ensures.steps (not-given _ (sym c.in_err-c.was ∙ read))

pub returns-then-c-least : goal.returns-then-c-least
returns-then-c-least c =
    let read = c.ok.ensures.value ∙ ap result_ok c.read_natural.ensures.value ∙ ok-natural 63 _ in
    falling c.loop-part.invariant c.next.new.self c.in-Some.part c.in-Some.ensures.steps (was-given _ _ (sym c.in_ok-c.was ∙ read)) c.if-c-least.true

pub loop-part-preserved : goal.loop-part-preserved
loop-part-preserved c =
    let read = c.ok.ensures.value ∙ ap result_ok c.read_natural.ensures.value ∙ ok-natural 63 _ in
    joining-on c.loop-part.invariant c.next.new.self c.in-Some.part c.in-Some.ensures.steps (was-given _ _ (sym c.in_ok-c.was ∙ read)) c.if-c-least.false c.with_bit-set.ensures

pub returns : goal.returns
returns c = joined-all c.loop-part.invariant c.next.new.self c.in-None.ensures.steps
