-- A good row's writer is a party, whose charge is one more; a bad row, or a seventeenth of one writer, decides.
use Rattle.std.proofs.Common.{ℕ, get_or, ap, refl, sym, arith}
use Rattle.audit.proofs.Counting.{counting-none, counting_more, counting-done, lent-row, row-bad, too_many, writer-low}
use Rattle.audit.proofs.charge_of.Goals as goal

pub loop-r-init : goal.loop-r-init
loop-r-init c = counting-none c.args.space.now _ refl

pub returns-then-not-row_ok : goal.returns-then-not-row_ok
returns-then-not-row_ok c =
    row-bad c.args.space.now c.loop-r.charges c.loop-r.r (omega arith) (omega arith) c.loop-r.invariant (omega arith) (lent-row c.args.space.now c.loop-r.r c.start-at.ensures)
    (sym c.if-not-row_ok.ensures)

pub offset_bounds-charges-row : goal.offset_bounds-charges-row
offset_bounds-charges-row c =
    omega (
      arith,
      writer-low c.args.space.now c.loop-r.charges c.loop-r.r (omega arith) (omega arith) c.loop-r.invariant (omega arith) (lent-row c.args.space.now c.loop-r.r c.start-at.ensures)
          (sym c.if-not-row_ok.ensures),
    )

pub bounds-charges-row : goal.bounds-charges-row
bounds-charges-row c =
    omega (
      arith,
      writer-low c.args.space.now c.loop-r.charges c.loop-r.r (omega arith) (omega arith) c.loop-r.invariant (omega arith) (lent-row c.args.space.now c.loop-r.r c.start-at.ensures)
          (sym c.if-not-row_ok.ensures),
    )

pub returns-then-charge-ge16 : goal.returns-then-charge-ge16
returns-then-charge-ge16 c =
    too_many c.args.space.now c.loop-r.charges c.loop-r.r (omega arith) (omega arith) c.loop-r.invariant (omega arith) (lent-row c.args.space.now c.loop-r.r c.start-at.ensures)
    (sym c.if-not-row_ok.ensures) c.if-charge-ge16.true

pub loop-r-preserved : goal.loop-r-preserved
loop-r-preserved c =
    counting_more c.args.space.now c.loop-r.charges c.loop-r.r (omega arith) (omega arith) c.loop-r.invariant (omega arith) (lent-row c.args.space.now c.loop-r.r c.start-at.ensures)
    (sym c.if-not-row_ok.ensures) c.if-charge-ge16.false

pub returns : goal.returns
returns c =
    let counts = c.loop-r.charges in
    (counts, counting-done c.args.space.now counts c.loop-r.r c.loop-r.invariant (omega arith), λ l. ap (λ (p : ℕ). get_or counts p 0) (omega arith))
