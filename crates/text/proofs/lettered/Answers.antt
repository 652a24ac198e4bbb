-- The letter is written, and then the number.
use Rattle.std.proofs.Common.{[], ◌∷◌, refl}
use Rattle.numbers.proofs.Placed.{begun-as, part-done}
use Rattle.text.proofs.lettered.Goals as goal

pub returns-clause-written : goal.returns-clause-written
returns-clause-written c = (part-done (c.args.letter ∷ []) _ (begun-as refl c.requires) c.place.ensures.written).completes _ _ c.decimal.ensures.written
