-- The numbers of refusals, and what was refused by number.
use Rattle.std.specs.Prelude.{ℕ, Result, Ok, Err}
use Rattle.refusal.specs.declared.Refusal.{Refusal}
use Rattle.refusal.specs.declared.Refusal.TheVariants.{Unsound, UnknownParty, FieldCount, BadPair, BadField, ShortResult, NameNotHeld, NoRoom, BadRoster, BadFile, UnreadableLine, OutOfRange, PartitionNotHeld, KeyNotHeld, TooManyPairs, UnknownStarter}

-- R1 to R16: the number by which the rules know it
abbrev pub number : Refusal → ℕ
number Unsound = 1
number UnknownParty = 2
number FieldCount = 3
number BadPair = 4
number BadField = 5
number ShortResult = 6
number NameNotHeld = 7
number NoRoom = 8
number BadRoster = 9
number BadFile = 10
number UnreadableLine = 11
number OutOfRange = 12
number PartitionNotHeld = 13
number KeyNotHeld = 14
number TooManyPairs = 15
number UnknownStarter = 16

-- an answer, with its refusal's number: no two refusals have one, so that the number tells which it is
abbrev pub numbered : {A : Type 0} → Result A Refusal → Result A ℕ
numbered (Ok x) = Ok x
numbered (Err r) = Err (number r)
