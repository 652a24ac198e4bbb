-- By whether a minus stands first: what is read then, and what it comes to with the minus.
use Rattle.std.proofs.Common.{rules, ◌≡◌, Ok, Err, pos, neg_ℤ, to_z, of_z, w32, w64, ◌-ℤ◌, sym, ap, ◌∙◌, arith}
use Rattle.std.proofs.lemmas.Int.{to_z-of_z}
use Rattle.numbers.proofs.Signed.{positive_in, negative_in, plus-read, minus-read, after_minus, negative-some}
use Rattle.numbers.proofs.read_whole.Goals as goal

pub returns-in_err-read_natural : goal.returns-in_err-read_natural
returns-in_err-read_natural c =
    let err : c.from_residual.result ≡ Err c.in_err-read_natural.field-0.0 = search rules in
    err ∙ ap positive_in (sym c.in_err-read_natural.was ∙ c.read_natural.ensures.value) ∙ plus-read _ (sym c.if-not-has_minus.ensures)

pub returns-then-not-has_minus : goal.returns-then-not-has_minus
returns-then-not-has_minus c =
    let held : to_z w32 c.in_ok-read_natural.field-0 ≡ pos c.in_ok-read_natural.field-0 = grind (arith, to_z-of_z) in
    ap Ok held ∙ ap positive_in (sym c.in_ok-read_natural.was ∙ c.read_natural.ensures.value) ∙ plus-read _ (sym c.if-not-has_minus.ensures)

pub returns-in_err-v : goal.returns-in_err-v
returns-in_err-v c =
    let err : c.from_residual-in_err-v.result ≡ Err c.in_err-v.field-0.0 = search rules in
    err ∙ ap negative_in (sym c.in_err-v.was ∙ c.read_natural-2.ensures.value) ∙ minus-read _ _ (sym c.if-not-has_minus.ensures) (after_minus c.args.text.now)

pub returns-in-0 : goal.returns-in-0
returns-in-0 c =
    ap (λ n. negative_in (Ok n)) (sym c.in-0.is) ∙ ap negative_in (sym c.in_ok-v.was ∙ c.read_natural-2.ensures.value)
    ∙ minus-read _ _ (sym c.if-not-has_minus.ensures) (after_minus c.args.text.now)

pub returns-in_default : goal.returns-in_default
returns-in_default c =
    let v = c.in_ok-v.v in
    let held : to_z w32 (of_z w32 (to_z w64 (of_z w64 (pos 0 -ℤ to_z w64 v)))) ≡ neg_ℤ (pos v) = grind (arith, to_z-of_z) in
    ap Ok held ∙ sym (negative-some v (omega arith)) ∙ ap negative_in (sym c.in_ok-v.was ∙ c.read_natural-2.ensures.value)
    ∙ minus-read _ _ (sym c.if-not-has_minus.ensures) (after_minus c.args.text.now)
