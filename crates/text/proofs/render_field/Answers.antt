-- A key is written after its letter.
use Rattle.std.proofs.Common.{[], ◌∷◌}
use Rattle.numbers.proofs.Placed.{begun-as, part-done}
use Rattle.text.proofs.Rendering.{render-by}
use Rattle.text.proofs.render_field.Goals as goal

pub returns-in-Key-clause-written : goal.returns-in-Key-clause-written
returns-in-Key-clause-written c =
    (part-done (107 ∷ []) _ (begun-as (render-by _ _ _ c.from.ensures c.in-Key.is) c.requires) c.place.ensures.written).completes _ _ c.key.ensures.written
