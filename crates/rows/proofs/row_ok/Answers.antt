-- `row_ok` meets its contract: the head's tests bound the number of fields, and where the words past the fields are 0 all
-- eight field words can be tested as fields, since 0 is one.
use Rattle.std.proofs.Common.{refl, sym, ◌∙◌, true≢false}
use Rattle.rows.proofs.RowLaws.{row-decided}
use Rattle.rows.proofs.row_ok.Goals as goal
use Rattle.rows.proofs.row_ok.Goals.{then-head_ok, else-head_ok}

pub returns-then-put_fields : goal.returns-then-put_fields
returns-then-put_fields c =
    elim c.if-head_ok.branch [
      | then-head_ok w ↦ rw (row-decided _ c.requires (sym w.if-head_ok.true ∙ c.head_ok.ensures) w.put_fields.ensures, ← w.value-is, c.if-put_fields.true) c.zero_from.ensures
      | else-head_ok w ↦ absurd (true≢false (sym c.if-put_fields.true ∙ w.value-is ∙ w.if-head_ok.false))
    ]

pub returns-else-put_fields : goal.returns-else-put_fields
returns-else-put_fields c =
    elim c.if-head_ok.branch [
      | then-head_ok w ↦ rw (row-decided _ c.requires (sym w.if-head_ok.true ∙ c.head_ok.ensures) w.put_fields.ensures, ← w.value-is, c.if-put_fields.false) refl
      | else-head_ok w ↦ rw (row-decided _ c.requires (sym w.if-head_ok.false ∙ c.head_ok.ensures) refl, w.value-is, w.if-head_ok.false) refl
    ]
