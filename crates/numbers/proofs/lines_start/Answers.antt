-- By the length, and then by the first line: whether it ends, and whether it is the names line.
use Rattle.std.proofs.Common.{sym, ◌∙◌, ap, List, ℕ, ◌++◌, ◌∷◌}
use Rattle.numbers.proofs.Equal.{same-equal}
use Rattle.numbers.proofs.Lines.{long-start, lone-start, names-found, other-names}
use Rattle.numbers.proofs.lines_start.Goals as goal

pub returns-then-most-text-clause-lines : goal.returns-then-most-text-clause-lines
returns-then-most-text-clause-lines c = long-start _ _ _ c.if-most-text.true

pub returns-in_err-first-clause-lines : goal.returns-in_err-first-clause-lines
returns-in_err-first-clause-lines c =
    rw c.from_residual.ensures (lone-start _ c.args.names.now _ c.if-most-text.false c.in_err-first.ensures.parts)

pub returns-then-same-clause-lines : goal.returns-then-same-clause-lines
returns-then-same-clause-lines c =
    names-found _ c.args.names.now _ c.if-most-text.false _ c.in_ok-first.rest.now c.in_ok-first.ensures.parts (sym c.if-same.ensures)

pub returns-then-same-clause-begins : goal.returns-then-same-clause-begins
returns-then-same-clause-begins c =
    c.in_ok-first.ensures.whole ∙ ap (λ (l : List ℕ). l ++ (10 ∷ c.in_ok-first.rest.now)) (same-equal _ _ (sym c.if-same.ensures))

pub returns-else-same-clause-lines : goal.returns-else-same-clause-lines
returns-else-same-clause-lines c =
    other-names _ c.args.names.now _ c.if-most-text.false _ c.in_ok-first.rest.now c.in_ok-first.ensures.parts (sym c.if-same.ensures)
