-- `remove_row` meets its contract: the live rows from the removed one on close up by a row, and word 0 is less by one, which is
-- how the words of a sound space change where an entry goes.
use Rattle.std.proofs.Common.{arith, rules}
use Rattle.rules.proofs.Back.{sound-facts}
use Rattle.edits.proofs.Lent.{removed}
use Rattle.edits.proofs.remove_row.Goals as goal

pub overflow_cast-live : goal.overflow_cast-live
overflow_cast-live c = let facts = sound-facts _ c.requires.0 in omega arith

pub overflow_cast-row : goal.overflow_cast-row
overflow_cast-row c = let facts = sound-facts _ c.requires.0 in omega arith

pub start-at-requires : goal.start-at-requires
start-at-requires c = let facts = sound-facts _ c.requires.0 in omega arith

pub start-requires : goal.start-requires
start-requires c = let facts = sound-facts _ c.requires.0 in omega arith

pub slice_bounds-close_up-end : goal.slice_bounds-close_up-end
slice_bounds-close_up-end c = let facts = sound-facts _ c.requires.0 in search rules

pub returns : goal.returns
returns c =
    let count = (sound-facts _ c.requires.0).count in
    removed c.args.space.now _ c.args.row c.requires.0 c.requires.1 c.start-at.ensures (omega (arith, c.start.ensures)) c.close_up.ensures
