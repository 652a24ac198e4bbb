-- The readers' answers, as what the definitions give.
use Rattle.std.specs.Prelude.{List, ℕ, length, Some, None}
use Rattle.std.specs.Prelude as code
use Rattle.std.proofs.Math.Option.{Option, none, some}

-- T8: of the fields that were read, how many
abbrev pub count_of : Option (List ℕ) → code.Option ℕ
count_of none = None
count_of (some ws) = Some (length ws)
