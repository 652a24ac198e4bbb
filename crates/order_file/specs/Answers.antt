-- What the code's readers answer, as what the definitions give.
use Rattle.std.specs.Prelude.{cond, List, map, ℕ, ◌+◌, ◌*◌, leb, take, Some, None}
use Rattle.std.specs.Prelude as code
use Rattle.std.proofs.Math.Option.{Option, none, some}
use Rattle.start_order.specs.Pairs.{Pairs}

-- R16: all parties above 7 are refused alike, so one stands for all of them
abbrev pub capped : ℕ → ℕ
capped p = cond (leb p 7) p 8

-- O1: the word of a pair
abbrev pub word_of : ℕ × ℕ → ℕ
word_of p = capped p.0 * 4294967296 + capped p.1

-- T2: the party of an item's number
abbrev pub party_of : Option ℕ → code.Option ℕ
party_of none = None
party_of (some p) = Some (capped p)

-- O6: the word of a line's pair
abbrev pub word_in : Option (ℕ × ℕ) → code.Option ℕ
word_in none = None
word_in (some p) = Some (word_of p)

-- R15: of more than 64 pairs only 65 are kept: they are refused as all of them are
abbrev pub kept_of : Pairs → List ℕ
kept_of ps = map word_of (take 65 ps)

-- O6: the words of the lines' pairs
abbrev pub words_in : Option Pairs → code.Option (List ℕ)
words_in none = None
words_in (some ps) = Some (kept_of ps)
