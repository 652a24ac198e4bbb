-- At each byte the value of the digits so far and what is left to read decide; the value stays below what 64 bits hold.
use Rattle.std.proofs.Common.{sym, ◌∙◌, arith}
use Rattle.numbers.proofs.Digits.{starts, starts-ill, digit-next, no_digit, ends, ends-past, digit-bound}
use Rattle.numbers.proofs.read_natural.Goals as goal

pub returns-then-not-starts_well-clause-value : goal.returns-then-not-starts_well-clause-value
returns-then-not-starts_well-clause-value c = sym (starts-ill _ _ (sym (c.if-not-starts_well.ensures)))

pub loop-b-init : goal.loop-b-init
loop-b-init c = record { bound = omega arith; left = starts _ _ (sym (c.if-not-starts_well.ensures)) }

pub returns-then-not-is_digit-clause-value : goal.returns-then-not-is_digit-clause-value
returns-then-not-is_digit-clause-value c =
    sym (c.loop-b.invariant.left ∙ no_digit _ _ _ _ c.loop-b-test.true (sym (c.if-not-is_digit.ensures)))

pub loop-b-preserved : goal.loop-b-preserved
loop-b-preserved c =
    let digit = sym (c.if-not-is_digit.ensures) in
    rw c.with_digit-value.ensures record {
      bound = digit-bound _ _ _ digit c.loop-b.invariant.bound;
      left = c.loop-b.invariant.left ∙ digit-next _ _ _ _ c.loop-b-test.true digit;
    }

pub returns-then-most-value-clause-value : goal.returns-then-most-value-clause-value
returns-then-most-value-clause-value c = sym (c.loop-b.invariant.left ∙ ends-past _ _ _ _ c.loop-b-test.false c.if-most-value.true)

pub returns-clause-value : goal.returns-clause-value
returns-clause-value c = sym (c.loop-b.invariant.left ∙ ends _ _ _ _ c.loop-b-test.false c.if-most-value.false)
