-- `with_all` meets its contract: word by word towards the mapped list.
use Rattle.std.proofs.Common.{◌≡◌, ◌++◌, length, take, drop, map}
use Rattle.rules.specs.Names.{with_bit}
use Rattle.holdings.proofs.with_all.Given as goal

abbrev pub invariant-loop-i : goal.invariant-loop-i
invariant-loop-i l = record {
  same_length : length l.dst ≡ length l.initial.dst;
  written : l.dst ≡ take l.i (map (λ w. with_bit w l.c) l.src) ++ drop l.i l.initial.dst;
}
