-- `main` is safe and ends: what is to be printed fits where it was written.
use Rattle.std.proofs.Common.{sym}
use lib.Seq.{length-take-le}
use Rattle.numbers.proofs.Placing.{written-fits}
use Rattle.roster.proofs.main.Goals as goal

pub slice_bounds-write_all-end : goal.slice_bounds-write_all-end
slice_bounds-write_all-end c = written-fits c.set_up-done.ensures.written

pub slice_bounds-write_all-end-2 : goal.slice_bounds-write_all-end-2
slice_bounds-write_all-end-2 c = sym (length-take-le _ _ (written-fits c.set_up-done.ensures.written))
