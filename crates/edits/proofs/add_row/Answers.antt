-- `add_row` meets its contract: the row past the live ones is written and word 0 is more by one, which is how the words of a
-- sound space change where an entry comes last.
use Rattle.std.proofs.Common.{arith, rules}
use Rattle.rules.proofs.Back.{sound-facts}
use Rattle.edits.proofs.Lent.{added}
use Rattle.edits.proofs.add_row.Goals as goal

pub bounds-space-0 : goal.bounds-space-0
bounds-space-0 c = let len = (sound-facts _ c.requires.0).len in omega arith

pub slice_bounds-write_row-end : goal.slice_bounds-write_row-end
slice_bounds-write_row-end c = let len = (sound-facts _ c.requires.0).len in search rules

pub returns : goal.returns
returns c = added c.args.space.now _ _ c.requires.0 c.requires.1 c.start-at.ensures c.write_row.ensures
