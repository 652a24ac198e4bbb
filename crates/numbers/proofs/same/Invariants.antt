-- At byte i what is left of both decides, since all before it is the same.
use Rattle.std.proofs.Common.{◌≡◌, drop}
use Rattle.numbers.specs.Parts as parts
use Rattle.numbers.proofs.same.Given as goal

abbrev pub invariant-loop-i : goal.invariant-loop-i
invariant-loop-i l = parts.same l.a l.b ≡ parts.same (drop l.i l.a) (drop l.i l.b)
