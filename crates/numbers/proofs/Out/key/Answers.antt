-- Below 31 the key is negative, and a minus is written first.
use Rattle.std.proofs.Common.{[], ◌∷◌}
use Rattle.numbers.proofs.Keys.{key-down}
use Rattle.numbers.proofs.Placed.{begun-as, part-done}
use Rattle.numbers.proofs.Out.key.Goals as goal

pub returns-else-s-ge31-clause-written : goal.returns-else-s-ge31-clause-written
returns-else-s-ge31-clause-written c =
    (part-done (45 ∷ []) _ (begun-as (key-down _ c.if-s-ge31.false) c.requires) c.place.ensures.written).completes _ _ c.decimal-else-s-ge31.ensures.written
