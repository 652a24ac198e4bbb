-- A number is written digit by digit, its tenth first.
use Rattle.std.proofs.Common.{arith, rules}
use Rattle.numbers.proofs.Decimal.{tenth-less, small-room, written_small, tenth-room, last-room, written-more}
use Rattle.numbers.proofs.+write_decimal.Goals as goal

pub bounds-bytes-at : goal.bounds-bytes-at
bounds-bytes-at t c = small-room _ _ _ c.if-v-lt10.true c.requires

pub returns-then-v-lt10 : goal.returns-then-v-lt10
returns-then-v-lt10 t c = written_small _ _ _ c.if-v-lt10.true c.requires

pub write_decimal-end-requires : goal.write_decimal-end-requires
write_decimal-end-requires t c =
    (omega (arith, tenth-less _ c.if-v-lt10.false), tenth-room _ c.args.bytes.now _ c.if-v-lt10.false c.requires)

pub bounds-bytes-end : goal.bounds-bytes-end
bounds-bytes-end t c = last-room _ _ _ c.if-v-lt10.false c.requires _ _ c.write_decimal-end.ensures

pub overflow_add-result-2 : goal.overflow_add-result-2
overflow_add-result-2 t c =
    let l = last-room _ _ _ c.if-v-lt10.false c.requires _ _ c.write_decimal-end.ensures in
    search rules

pub returns : goal.returns
returns t c = written-more _ _ _ c.if-v-lt10.false c.requires _ _ c.write_decimal-end.ensures
