-- Numbers of any length in decimal: read from bytes, and rendered to bytes.
use Rattle.std.specs.Prelude.{Bool, true, false, not, ◌&&◌, cond, List, [], ◌∷◌, ◌++◌, ℕ, zero, suc, ◌+◌, ◌-◌, ◌*◌, ◌/◌, ◌%◌, eqb, leb, ltb, ℤ, pos, negsuc, ◌-ℤ◌}
use Rattle.std.proofs.Math.Option.{Option, none, some}
use Rattle.rules.specs.Lists.{all}

-- T1: a digit is a byte from `0` (48) to `9` (57)
abbrev pub is_digit : ℕ → Bool
is_digit b = leb 48 b && leb b 57

-- T1: the value of digits that follow digits of value v
abbrev pub value_from : ℕ → List ℕ → ℕ
value_from v [] = v
value_from v (b ∷ bs) = value_from (10 * v + (b - 48)) bs

-- T1: the decimal value of digits
abbrev pub value_of : List ℕ → ℕ
value_of bs = value_from 0 bs

-- T2: at least one byte, and no leading zero: only a single byte may be `0`
abbrev pub starts_well : List ℕ → Bool
starts_well [] = false
starts_well (b ∷ []) = true
starts_well (b ∷ c ∷ bs) = not (eqb b 48)

-- T2: a natural number is digits without a leading zero
unfoldable pub natural : List ℕ → Option ℕ
natural bs = cond (starts_well bs && all is_digit bs) (some (value_of bs)) none

abbrev pub positive : Option ℕ → Option ℤ
positive none = none
positive (some v) = some (pos v)

-- T4: no minus stands before 0
abbrev pub negative : Option ℕ → Option ℤ
negative none = none
negative (some zero) = none
negative (some (suc v)) = some (negsuc v)

-- T4: a whole number is a natural number, or `-` (45) and one other than 0
unfoldable pub whole : List ℕ → Option ℤ
whole [] = none
whole (b ∷ bs) = cond (eqb b 45) (negative (natural bs)) (positive (natural (b ∷ bs)))

-- T5: the digits of v; any number of steps above v is enough
unfoldable pub digits : ℕ → ℕ → List ℕ
digits zero v = []
digits (suc steps) v = let more = digits steps (v / 10) ++ ((48 + v % 10) ∷ []) in cond (ltb v 10) ((48 + v) ∷ []) more

-- T5
unfoldable pub decimal : ℕ → List ℕ
decimal v = digits (suc v) v

-- T5: a key, signed
abbrev pub decimal_key : ℤ → List ℕ
decimal_key (pos v) = decimal v
decimal_key (negsuc v) = 45 ∷ decimal (suc v)

-- N5: the key that is stored as s
abbrev pub key_of : ℕ → ℤ
key_of s = pos s -ℤ pos 31

-- D7, O8: `no` and a refusal's number, with a line feed
unfoldable pub refusal_text : ℕ → List ℕ
refusal_text n = 110 ∷ 111 ∷ (decimal n ++ (10 ∷ []))
