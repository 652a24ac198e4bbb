-- No byte before the place is a separator.
use Rattle.std.proofs.Common.{◌≡◌}
use Rattle.std.specs.List.{AllWithin}
use Rattle.numbers.proofs.split_once.Given as goal

abbrev pub invariant-loop-i : goal.invariant-loop-i
invariant-loop-i l = AllWithin (λ b. b ≡ l.sep → ⊥) l.text 0 l.i
