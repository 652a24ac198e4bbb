-- `open` meets its contract: the two tests are those of `opening`, in its order, and past them the space is filled with the opened state's words.
use Rattle.std.proofs.Common.{ℕ, List, [], sym, ap, ◌∙◌, eq-eqb, ne_eqb}
use Rattle.rules.specs.Calls.{done}
use Rattle.rules.specs.Words.{exit, opening}
use Rattle.space.proofs.open.Goals as goal

pub returns-then-space-ne1809 : goal.returns-then-space-ne1809
unfolding opening
returns-then-space-ne1809 c = simp (ne_eqb _ _ c.if-space-ne1809.true)

pub returns-then-bad_roster : goal.returns-then-bad_roster
unfolding opening
returns-then-bad_roster c = simp (eq-eqb _ _ c.if-space-ne1809.false, sym c.bad_roster.ensures ∙ c.if-bad_roster.true)

pub returns : goal.returns
unfolding opening
returns c =
    simp (eq-eqb _ _ c.if-space-ne1809.false, sym c.bad_roster.ensures ∙ c.if-bad_roster.false)
    (ap (λ (ws : List ℕ). exit done ws []) c.fill.ensures)
