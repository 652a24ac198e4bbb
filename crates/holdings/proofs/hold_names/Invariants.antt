-- `hold_names` meets its contract: at a turn the party holds the names of the fields before it, in a space that is still sound.
use Rattle.std.proofs.Common.{◌≡◌, take}
use Rattle.rules.specs.Fields.{names_in}
use Rattle.rules.specs.State.{give_all}
use Rattle.rules.specs.Words.{encode, decode}
use Rattle.holdings.proofs.hold_names.Given as goal

abbrev pub invariant-loop-w : goal.invariant-loop-w
invariant-loop-w l = l.space ≡ encode (give_all l.party (names_in (take l.w-index l.fields)) (decode l.initial.space))
