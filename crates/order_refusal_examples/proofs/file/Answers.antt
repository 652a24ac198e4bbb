-- `file` is safe and ends: what is to be printed fits where it was written.
use Rattle.std.proofs.Common.{sym, arith}
use lib.Seq.{length-take-le}
use Rattle.numbers.proofs.Placing.{written-fits}
use Rattle.order_refusal_examples.proofs.file.Goals as goal

pub slice_bounds-lent-end : goal.slice_bounds-lent-end
slice_bounds-lent-end c = let fits = written-fits c.print_order.ensures.written in omega (arith, c.print_order.ensures.len)

pub slice_bounds-write_all-end-2 : goal.slice_bounds-write_all-end-2
slice_bounds-write_all-end-2 c =
    let fits = written-fits c.print_order.ensures.written in
    sym (length-take-le _ _ (omega (arith, c.print_order.ensures.len)))
