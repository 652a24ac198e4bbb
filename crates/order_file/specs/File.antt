-- A file of pairs: the pairs of its lines, and what they come to.
use Rattle.std.specs.Prelude.{List, [], ◌∷◌, ◌++◌, ℕ}
use Rattle.std.proofs.Math.Option.{Option, none, some}
use Rattle.numbers.specs.Numbers.{natural}
use Rattle.numbers.specs.Parts.{parts}
use Rattle.numbers.specs.Lines.{begun_with}
use Rattle.start_order.specs.Pairs.{Pairs}
use Rattle.start_order.specs.Call.{Outcome, refused, start_order}

-- O6: two numbers, if both can be read
abbrev pub both : Option ℕ → Option ℕ → Option (ℕ × ℕ)
both none b = none
both (some a) none = none
both (some a) (some b) = some (a, b)

abbrev pub pair_by : List (List ℕ) → Option (ℕ × ℕ)
pair_by [] = none
pair_by (a ∷ []) = none
pair_by (a ∷ b ∷ []) = both (natural a) (natural b)
pair_by (a ∷ b ∷ c ∷ more) = none

-- O6: the pair of a line: two natural numbers with one blank (32) between
unfoldable pub read_pair : List ℕ → Option (ℕ × ℕ)
read_pair line = pair_by (parts 32 line)

-- O6: what stands after the last line feed is no line: it is empty, or R11 applies
abbrev pub at_end : Pairs → List ℕ → Option Pairs
at_end ps [] = some ps
at_end ps (b ∷ bs) = none

abbrev pub follow : Option (ℕ × ℕ) → Pairs → (Pairs → Option Pairs) → Option Pairs
follow none ps more = none
follow (some p) ps more = more (ps ++ (p ∷ []))

-- O6, R11: the pairs of all lines, after those of the lines before; none if a line can't be read
abbrev pub read_pairs : Pairs → List (List ℕ) → Option Pairs
read_pairs ps [] = some ps
read_pairs ps (l ∷ []) = at_end ps l
read_pairs ps (l ∷ m ∷ ls) = follow (read_pair l) ps (λ next. read_pairs next (m ∷ ls))

-- O6: the names line: "before after"
unfoldable pub names_line : List ℕ
names_line = 98 ∷ 101 ∷ 102 ∷ 111 ∷ 114 ∷ 101 ∷ 32 ∷ 97 ∷ 102 ∷ 116 ∷ 101 ∷ 114 ∷ []

-- O7, R11: a line that can't be read comes before what the pairs come to; eight words are lent
abbrev pub from_pairs : Option Pairs → Outcome
from_pairs none = refused 11
from_pairs (some ps) = start_order ps 8

-- O7, R10
abbrev pub from_start : Option (List (List ℕ)) → Outcome
from_start none = refused 10
from_start (some lines) = from_pairs (read_pairs [] lines)

-- O6, O7: a file of at most 4,096 bytes
unfoldable pub read_file : List ℕ → Outcome
read_file file = from_start (begun_with 4096 names_line file)
