-- By the first byte: a letter and what follows it, or the wildcard alone; any other is unreadable.
use Rattle.std.proofs.Common.{rules, tests, refl, sym, ap, ◌∙◌, arith}
use mathlib.Core.Option.{some}
use Rattle.refusal.specs.Given.{given}
use Rattle.text.specs.Fields.{read_field}
use Rattle.text.proofs.FieldReading.{no_byte, by_first, other-first, wildcard-alone, wildcard-more}
use Rattle.text.proofs.read_field.Goals as goal

pub returns-in_err-kind : goal.returns-in_err-kind
returns-in_err-kind c = c.from_residual.ensures ∙ ap given (sym (no_byte _ c.in_err-kind.ensures.cases))

pub returns-in-109 : goal.returns-in-109
unfolding read_field
returns-in-109 c = c.of_kind.ensures _ c.read_unsigned.ensures ∙ ap given (sym (by_first c.in_ok-kind.ensures.cases.0 c.in-109.is))

pub returns-in-112 : goal.returns-in-112
unfolding read_field
returns-in-112 c = c.of_kind-in-112.ensures _ c.read_unsigned-in-112.ensures ∙ ap given (sym (by_first c.in_ok-kind.ensures.cases.0 c.in-112.is))

pub returns-in-107 : goal.returns-in-107
unfolding read_field
returns-in-107 c = c.of_kind-in-107.ensures _ c.read_key.ensures ∙ ap given (sym (by_first c.in_ok-kind.ensures.cases.0 c.in-107.is))

pub returns-in-103 : goal.returns-in-103
unfolding read_field
returns-in-103 c = c.of_kind-in-103.ensures _ c.read_unsigned-in-103.ensures ∙ ap given (sym (by_first c.in_ok-kind.ensures.cases.0 c.in-103.is))

pub returns-in-108 : goal.returns-in-108
unfolding read_field
returns-in-108 c = c.of_kind-in-108.ensures _ c.read_unsigned-in-108.ensures ∙ ap given (sym (by_first c.in_ok-kind.ensures.cases.0 c.in-108.is))

pub returns-then-is_empty : goal.returns-then-is_empty
returns-then-is_empty c =
    c.of_kind-then-is_empty.ensures (some 0) refl ∙ ap given (sym (wildcard-alone c.in_ok-kind.ensures.cases.0 c.in-42.is (search (rules, tests))))

pub returns-else-is_empty : goal.returns-else-is_empty
returns-else-is_empty c = ap given (sym (wildcard-more c.in_ok-kind.ensures.cases.0 c.in-42.is (search (rules, tests))))

pub returns-in_default : goal.returns-in_default
returns-in_default c =
    ap given
    (sym (other-first c.in_ok-kind.ensures.cases.0 (omega arith) (omega arith) (omega arith) (omega arith) (omega arith) (omega arith)))
