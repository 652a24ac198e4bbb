-- The first separator is where the loop is left.
use Rattle.std.proofs.Common.{rules}
use Rattle.numbers.proofs.NumbersBack.{no-separator, first-separator}
use Rattle.numbers.proofs.split_once.Goals as goal

pub returns-then-b-sep-clause-parts : goal.returns-then-b-sep-clause-parts
returns-then-b-sep-clause-parts c =
    first-separator _ _ _ c.loop-i-test.true c.if-b-sep.true c.loop-i.invariant

pub returns-then-b-sep-clause-before : goal.returns-then-b-sep-clause-before
returns-then-b-sep-clause-before c = let l = returns-then-b-sep-clause-parts c in cc

pub returns-clause-parts : goal.returns-clause-parts
returns-clause-parts c = no-separator _ _ (search rules)

pub returns-clause-before : goal.returns-clause-before
returns-clause-before c = let l = returns-clause-parts c in cc
