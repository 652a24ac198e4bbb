-- `field_held` meets its contract: `field_of` says what the word is, and each arm tests the name that a field of that kind carries, if any.
use Rattle.std.proofs.Common.{sym, ◌∙◌}
use Rattle.rules.specs.Names.{held_in}
use Rattle.rules.proofs.FieldLaws.{held-name}
use Rattle.words.proofs.field_held.Goals as goal

pub returns-in-Partition : goal.returns-in-Partition
unfolding held_in
returns-in-Partition c = c.has_bit.ensures ∙ held-name _ _ _ _ (sym c.in-Partition.ensures)

pub returns-in-Key : goal.returns-in-Key
unfolding held_in
returns-in-Key c = c.has_bit-in-Key.ensures ∙ held-name _ _ _ _ (sym c.in-Key.ensures)
