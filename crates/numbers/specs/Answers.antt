-- The readers' answers, as what the definitions give.
use Rattle.std.specs.Prelude.{Bool, ◌&&◌, cond, ℕ, ◌+◌, ◌-◌, ◌*◌, leb, ℤ, pos, negsuc, Result, Ok, Err}
use Rattle.std.proofs.Math.Option.{Option, none, some}
use Rattle.std.specs.Int.Signed.{le_z}
use Rattle.numbers.specs.declared.NumberError.{NumberError}
use Rattle.numbers.specs.declared.NumberError.TheVariants.{Large, Unreadable}

-- T2: the value with one digit more; past the most it stays as it is
abbrev pub with_digit : ℕ → ℕ → ℕ → ℕ
with_digit most v b = cond (leb v most) (10 * v + (b - 48)) v

-- T2: a natural number of any length: its value where it is at most `most`
unfoldable pub natural_of : ℕ → Option ℕ → Result ℕ NumberError
natural_of most none = Err Unreadable
natural_of most (some v) = cond (leb v most) (Ok v) (Err Large)

-- T4: 32 bits hold it
abbrev pub fits : ℤ → Bool
fits k = le_z (negsuc 2147483647) k && le_z k (pos 2147483647)

-- T4: a whole number of any length: its value where 32 bits hold it
unfoldable pub whole_of : Option ℤ → Result ℤ NumberError
whole_of none = Err Unreadable
whole_of (some k) = cond (fits k) (Ok k) (Err Large)
