-- At a part the fields before it are read and written, and the parts that are left decide.
use Rattle.std.proofs.Common.{rules, tests, sym, ap, ◌∙◌}
use Rattle.refusal.proofs.Given.{not-given, was-given}
use Rattle.numbers.proofs.Splits.{split-parts}
use Rattle.text.specs.Answers.{count_of}
use Rattle.text.proofs.ListReading.{dash-same, dash-fields, dash-words, reading_begins, all_done, all_kept, full-none, full_kept, stopped-none, stopped_kept, reading-on}
use Rattle.text.proofs.read_fields.Goals as goal

pub returns-then-same-clause-value : goal.returns-then-same-clause-value
returns-then-same-clause-value c = sym (ap count_of (dash-fields _ (sym (dash-same c.args.text.now) ∙ sym c.if-same.ensures)))

pub returns-then-same-clause-words : goal.returns-then-same-clause-words
returns-then-same-clause-words c = sym (dash-words _ _ (sym (dash-same c.args.text.now) ∙ sym c.if-same.ensures))

pub loop-part-init : goal.loop-part-init
loop-part-init c =
    let split = c.split-part-items.ensures in
    rw c.into_iter-part-iterator.ensures.into_iter_gives
    (reading_begins c.requires (sym (dash-same c.args.text.now) ∙ sym c.if-same.ensures)
    (split-parts _ 44 c.args.text.now split.rest split.done split.closure (λ x b q k. search (rules, tests))))

pub returns-then-n-eq16-clause-value : goal.returns-then-n-eq16-clause-value
returns-then-n-eq16-clause-value c = full-none c.loop-part.invariant c.next.new.self c.in-Some.part c.in-Some.ensures.steps c.if-n-eq16.true

pub returns-then-n-eq16-clause-words : goal.returns-then-n-eq16-clause-words
returns-then-n-eq16-clause-words c = full_kept c.loop-part.invariant c.next.new.self c.in-Some.part c.in-Some.ensures.steps c.if-n-eq16.true

pub returns-in_err-fields-clause-value : goal.returns-in_err-fields-clause-value
returns-in_err-fields-clause-value c =
    c.from_residual.ensures
    ∙ stopped-none c.loop-part.invariant c.next.new.self c.in-Some.part c.in-Some.ensures.steps (not-given _ (sym c.in_err-fields.was ∙ c.read_field.ensures))

pub returns-in_err-fields-clause-words : goal.returns-in_err-fields-clause-words
returns-in_err-fields-clause-words c =
    stopped_kept c.loop-part.invariant c.next.new.self c.in-Some.part c.in-Some.ensures.steps (not-given _ (sym c.in_err-fields.was ∙ c.read_field.ensures))

pub loop-part-preserved : goal.loop-part-preserved
loop-part-preserved c =
    reading-on c.loop-part.invariant c.next.new.self c.in-Some.part c.in-Some.ensures.steps (was-given _ _ (sym c.in_ok-fields.was ∙ c.read_field.ensures)) c.if-n-eq16.false

pub returns-clause-value : goal.returns-clause-value
returns-clause-value c = all_done c.loop-part.invariant c.next.new.self c.in-None.ensures.steps

pub returns-clause-words : goal.returns-clause-words
returns-clause-words c = all_kept c.loop-part.invariant c.next.new.self c.in-None.ensures.steps
