-- The console's numbers: those that 32 bits hold.
use Rattle.std.specs.Prelude.{cond, List, ℕ, leb, ℤ}
use Rattle.std.proofs.Math.Option.{Option, none, some}
use Rattle.numbers.specs.Numbers.{natural, whole}
use Rattle.numbers.specs.Answers.{fits}

abbrev pub up_to : ℕ → Option ℕ → Option ℕ
up_to most none = none
up_to most (some v) = cond (leb v most) (some v) none

-- T3: an unsigned number is a natural number that fits 32 bits
unfoldable pub unsigned : List ℕ → Option ℕ
unsigned bs = up_to 4294967295 (natural bs)

abbrev pub fitting : Option ℤ → Option ℤ
fitting none = none
fitting (some k) = cond (fits k) (some k) none

-- T4: a signed number is a whole number that fits 32 bits
unfoldable pub signed : List ℕ → Option ℤ
signed bs = fitting (whole bs)
