-- What the tests of a call decide.
use Rattle.std.proofs.Math.Option.{Option, none, some}
use Rattle.std.specs.Prelude.{ℕ, Result, Ok, Err}
use Rattle.rules.specs.Calls.{Table, first_that_applies}

abbrev pub verdict_of : Option ℕ → Result (Unit {0}) ℕ
verdict_of none = Ok tt
verdict_of (some n) = Err n

-- R1 to R8, R13, R14: the number of the first test that applies, or passed
unfoldable pub verdict : Table → Result (Unit {0}) ℕ
verdict ts = verdict_of (first_that_applies ts)
