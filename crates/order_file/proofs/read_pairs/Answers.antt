-- A line more is read.
use Rattle.std.proofs.Common.{sym, ◌∙◌, arith}
use Rattle.order_file.proofs.Files.{line_kept, line-passed}
use Rattle.order_file.proofs.read_pairs.Goals as goal
use lib.ListN.{length-set}

pub loop-line-preserved-then-n-lt65 : goal.loop-line-preserved-then-n-lt65
loop-line-preserved-then-n-lt65 c =
    let l = c.loop-line in
    let q = sym c.in_ok-word.was ∙ c.read_pair.ensures in
    record { room = simp length-set l.invariant.room; few = omega arith; got = line_kept _ _ l.n _ l.invariant.got _ _ c.in-Some.ensures.parts _ q c.if-n-lt65.true l.invariant.room }

pub loop-line-preserved : goal.loop-line-preserved
loop-line-preserved c =
    let l = c.loop-line in
    let q = sym c.in_ok-word.was ∙ c.read_pair.ensures in
    record { room = l.invariant.room; few = l.invariant.few; got = line-passed _ _ l.n _ l.invariant.got _ _ c.in-Some.ensures.parts _ q c.if-n-lt65.false }
