-- `of_line` meets its contract: each test is the list's at that place.
use Rattle.std.proofs.Common.{arith, sym}
use Rattle.starts.proofs.Lists.{listed_at, listed-none, none-of-eight}
use Rattle.starts.proofs.of_line.Goals as goal

pub returns-then-row-first : goal.returns-then-row-first
returns-then-row-first c = sym (listed_at _ _ _ _ 0 (omega arith) (omega arith))

pub returns-then-row-first-2 : goal.returns-then-row-first-2
returns-then-row-first-2 c = sym (listed_at _ _ _ _ 1 (omega arith) (omega arith))

pub returns-then-row-first-3 : goal.returns-then-row-first-3
returns-then-row-first-3 c = sym (listed_at _ _ _ _ 2 (omega arith) (omega arith))

pub returns-then-row-first-4 : goal.returns-then-row-first-4
returns-then-row-first-4 c = sym (listed_at _ _ _ _ 3 (omega arith) (omega arith))

pub returns-then-row-first-5 : goal.returns-then-row-first-5
returns-then-row-first-5 c = sym (listed_at _ _ _ _ 4 (omega arith) (omega arith))

pub returns-then-row-first-6 : goal.returns-then-row-first-6
returns-then-row-first-6 c = sym (listed_at _ _ _ _ 5 (omega arith) (omega arith))

pub returns-then-row-first-7 : goal.returns-then-row-first-7
returns-then-row-first-7 c = sym (listed_at _ _ _ _ 6 (omega arith) (omega arith))

pub returns-then-row-first-8 : goal.returns-then-row-first-8
returns-then-row-first-8 c = sym (listed_at _ _ _ _ 7 (omega arith) (omega arith))

pub returns : goal.returns
returns c =
    let none = none-of-eight c.args.first c.args.row c.if-row-first.false c.if-row-first-2.false c.if-row-first-3.false c.if-row-first-4.false c.if-row-first-5.false c.if-row-first-6.false c.if-row-first-7.false c.if-row-first-8.false in
    sym (listed-none _ _ _ _ (λ i l. none i (omega arith)))
