-- By whether the line has seven items, and by the first, which decides whose reader reads the line.
use Rattle.std.proofs.Common.{refl, sym, ◌∙◌}
use Rattle.lines.specs.Lines as lines
use Rattle.lines.proofs.Readers.{line_by, seek_by}
use Rattle.lines.proofs.read_line.Goals as goal

pub returns-in_err-items : goal.returns-in_err-items
unfolding lines.read_line
returns-in_err-items c = rw (c.from_residual.ensures, c.in_err-items.ensures) (record { is = refl; in_range = tt })

pub returns-then-same : goal.returns-then-same
returns-then-same c = rw (line_by _ _ c.in_ok-items.ensures, sym c.same.ensures ∙ c.if-same.true) (c.read_give.ensures _)

pub returns-then-same-2 : goal.returns-then-same-2
returns-then-same-2 c =
    rw (line_by _ _ c.in_ok-items.ensures, sym c.same.ensures ∙ c.if-same.false, sym c.same-2.ensures ∙ c.if-same-2.true)
    c.read_put.ensures

pub returns-in_err-op_in : goal.returns-in_err-op_in
returns-in_err-op_in c =
    rw (line_by _ _ c.in_ok-items.ensures, sym c.same.ensures ∙ c.if-same.false, sym c.same-2.ensures ∙ c.if-same-2.false)
    (rw (← c.in_err-op_in.ensures, c.from_residual-in_err-op_in.ensures) (record { is = refl; in_range = tt }))

pub returns : goal.returns
returns c =
    rw (line_by _ _ c.in_ok-items.ensures, sym c.same.ensures ∙ c.if-same.false, sym c.same-2.ensures ∙ c.if-same-2.false)
    (rw (← c.in_ok-op_in.ensures, seek_by _ _ c.in_ok-items.ensures) c.read_seek.ensures)
