-- At each byte the value of the digits so far and what is left to read decide; the value stays below what 64 bits hold.
use Rattle.std.proofs.Common.{drop, ◌≡◌, ◌+◌, ◌*◌, ◌≤◌}
use Rattle.numbers.specs.Numbers as numbers
use Rattle.numbers.specs.Answers.{natural_of}
use Rattle.numbers.proofs.Digits.{read_on}
use Rattle.numbers.proofs.read_natural.Given as goal

abbrev pub invariant-loop-b : goal.invariant-loop-b
invariant-loop-b l = record {
  bound : l.value ≤ 10 * l.most + 9;
  left : natural_of l.most (numbers.natural l.text) ≡ read_on l.most l.value (drop l.b-index l.text);
}
