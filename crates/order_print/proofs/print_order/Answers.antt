-- By what the file came to, of which the line is written: no line is longer than an order's.
use Rattle.std.proofs.Common.{refl, ap, ◌∙◌, subst, arith, Ok}
use Rattle.refusal.specs.Numbers.{number}
use Rattle.numbers.proofs.Keys.{refusal-short}
use Rattle.start_order.proofs.Answered.{was-ordered, was-circle, was-refused, Bounded}
use Rattle.order_file.specs.File.{read_file}
use Rattle.order_file.proofs.Outcomes.{file-bounded}
use Rattle.order_print.proofs.Texts.{order-short, circle-short}
use Rattle.order_print.proofs.print_order.Goals as goal

pub render_order-requires : goal.render_order-requires
render_order-requires c =
    let file = c.args.file.now in
    let s = c.start_by in
    let is = was-ordered (read_file file) _ _ _ s.ensures (c.in-Ok-Order.is ∙ ap Ok c.in-Ok-Order.field-0-is) refl in
    let l = order-short s.new.places (subst (Bounded 10) is (file-bounded file)) s.array_long in
    omega arith

pub render_circle-requires : goal.render_circle-requires
render_circle-requires c =
    let file = c.args.file.now in
    let is = was-circle (read_file file) _ _ _ c.start_by.ensures c.in-Ok-Circle.p (c.in-Ok-Circle.is ∙ ap Ok c.in-Ok-Circle.field-0-is) in
    let l = circle-short c.in-Ok-Circle.p (subst (Bounded 10) is (file-bounded file)) in
    omega arith

pub refusal-requires : goal.refusal-requires
refusal-requires c =
    let file = c.args.file.now in
    let is = was-refused (read_file file) _ _ _ c.start_by.ensures c.in-Err.refusal c.in-Err.is in
    let b = subst (Bounded 10) is (file-bounded file) in
    let l = refusal-short (number c.in-Err.refusal) (omega (arith, b.1)) in
    omega arith
