-- What the rules give or don't give, as the code has it.
use Rattle.std.specs.Prelude.{Some, None}
use Rattle.std.specs.Prelude as code
use Rattle.std.proofs.Math.Option.{Option, none, some}

abbrev pub given : {A : Type 0} → Option A → code.Option A
given none = None
given (some x) = Some x
