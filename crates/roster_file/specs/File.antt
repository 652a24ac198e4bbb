-- A whole roster file: the 16 words that it gives, or its refusal.
use Rattle.std.specs.Prelude.{List, [], ◌∷◌, ℕ}
use Rattle.std.proofs.Math.Option.{Option, none, some}
use Rattle.rules.specs.Words.{zeros}
use Rattle.numbers.specs.Lines.{begun_with}
use Rattle.roster_line.specs.Rights.{Said, gives, faulty, read_line, with_right}

-- D4, D5: the roster that a file gives, or the number by which it is refused
pub data Outcome : Type 0 where
  accepted : List ℕ → Outcome
  refused : ℕ → Outcome

-- D1: what stands after the last line feed is no line: it is empty, or R11 applies
abbrev pub at_end : List ℕ → List ℕ → Outcome
at_end roster [] = accepted roster
at_end roster (b ∷ bs) = refused 11

-- D5: the first faulty line decides
abbrev pub follow : Said → List ℕ → (List ℕ → Outcome) → Outcome
follow (gives who n) roster more = more (with_right who n roster)
follow (faulty n) roster more = refused n

-- D4, D5: the parts that line feeds end, and the one after the last, with what the lines before have given
abbrev pub read_lines : List ℕ → List (List ℕ) → Outcome
read_lines roster [] = accepted roster
read_lines roster (l ∷ []) = at_end roster l
read_lines roster (l ∷ m ∷ ls) = follow (read_line l) roster (λ next. read_lines next (m ∷ ls))

-- D1: the names line: "party kind name"
unfoldable pub names_line : List ℕ
names_line = 112 ∷ 97 ∷ 114 ∷ 116 ∷ 121 ∷ 32 ∷ 107 ∷ 105 ∷ 110 ∷ 100 ∷ 32 ∷ 110 ∷ 97 ∷ 109 ∷ 101 ∷ []

-- R10: the lines after the names line, if the file begins with it
abbrev pub from_start : Option (List (List ℕ)) → Outcome
from_start none = refused 10
from_start (some lines) = read_lines (zeros 16) lines

-- D1: a file of at most 16,384 bytes
unfoldable pub read_file : List ℕ → Outcome
read_file file = from_start (begun_with 16384 names_line file)
