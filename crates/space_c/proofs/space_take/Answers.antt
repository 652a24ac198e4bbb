-- `space_take` meets its contract: the answers of calls are small.
use Rattle.space.proofs.Small.{call-small}
use Rattle.space_c.proofs.Bounds.{small}
use Rattle.space_c.proofs.space_take.Goals as goal

pub found-requires : goal.found-requires
found-requires c = small _ _ _ _ c.take.ensures (call-small _ _)
