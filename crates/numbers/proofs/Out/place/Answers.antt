-- The slice that the bytes are copied to is as long as they are.
use Rattle.numbers.proofs.Placing.{written_slice}
use Rattle.numbers.proofs.Out.place.Goals as goal

pub returns-clause-written : goal.returns-clause-written
returns-clause-written c = rw c.copy_from_slice.ensures.after (written_slice _ _ _)
