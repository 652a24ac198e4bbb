-- The whole output of the console as a function of its whole input.
use Rattle.std.specs.Prelude.{cond, List, [], ◌∷◌, ◌++◌, ℕ, suc, ◌+◌, ltb, length}
use Rattle.std.proofs.Math.Option.{Option, none, some}
use Rattle.rules.specs.Names.{set_bit}
use Rattle.rules.specs.Calls.{Call, Answer, done, found, nothing, refused}
use Rattle.rules.specs.Words.{zeros, Exit, call, opening}
use Rattle.rules.specs.Runs.{found_in}
use Rattle.numbers.specs.Numbers.{decimal}
use Rattle.numbers.specs.Parts.{parts, same}
use Rattle.text.specs.Fields.{render_fields}
use Rattle.lines.specs.Lines.{Line, give, ask, read_line}

-- T20: the console first builds the roster, and from the first call on runs the space
pub data Phase : Type 0 where
  -- the roster's 16 words
  giving : List ℕ → Phase
  -- the space's words, and how many calls were made
  running : List ℕ → ℕ → Phase

abbrev pub with_name : ℕ → Option ℕ → List ℕ → List ℕ
with_name i none roster = roster
with_name i (some c) roster = set_bit i c roster

-- T12: the roster with the gift
unfoldable pub given : ℕ → Option ℕ → Option ℕ → List ℕ → List ℕ
given who p k roster = with_name (8 + who) k (with_name who p roster)

-- T21: "done", "found", "none", or "no" and the refusal
unfoldable pub answer_text : Answer → List ℕ
answer_text done = 100 ∷ 111 ∷ 110 ∷ 101 ∷ []
answer_text (found n) = 102 ∷ 111 ∷ 117 ∷ 110 ∷ 100 ∷ []
answer_text nothing = 110 ∷ 111 ∷ 110 ∷ 101 ∷ []
answer_text (refused n) = 110 ∷ 111 ∷ decimal n

-- T21: the call's number, its answer, and the found fields or `-`, with blanks (32) between and a line feed (10)
unfoldable pub reply_text : ℕ → Exit → List ℕ
reply_text n x =
    decimal n ++ (32 ∷ (answer_text x.answer ++ (32 ∷ (render_fields (found_in x.answer x.result) ++ (10 ∷ [])))))

abbrev pub Stepped : Type 0
Stepped = Option (Phase × List ℕ)

abbrev pub replying : List ℕ → ℕ → Call (List ℕ) → Stepped
replying ws n c = some (running (call ws c).space (suc n), reply_text (suc n) (call ws c))

-- T20: the first call opens a space with the roster; a gift comes too late after it
abbrev pub follow : Phase → Line → Stepped
follow (giving roster) (give who p k) = some (giving (given who p k roster), [])
follow (giving roster) (ask c) = replying (opening (zeros 1809) roster).space 0 c
follow (running ws n) (give who p k) = none
follow (running ws n) (ask c) = replying ws n c

abbrev pub step_by : Phase → Option Line → Stepped
step_by ph none = none
step_by ph (some l) = follow ph l

-- T20: what one line does, and what is printed of it; none where it is unreadable
unfoldable pub line_step : Phase → List ℕ → Stepped
line_step ph line = step_by ph (read_line line)

-- T22: "line N unreadable" and a line feed
unfoldable pub unreadable : ℕ → List ℕ
unreadable n =
    (108 ∷ 105 ∷ 110 ∷ 101 ∷ 32 ∷ [])
    ++ (decimal n ++ (32 ∷ 117 ∷ 110 ∷ 114 ∷ 101 ∷ 97 ∷ 100 ∷ 97 ∷ 98 ∷ 108 ∷ 101 ∷ 10 ∷ []))

-- T23: "input too long" and a line feed
unfoldable pub too_long : List ℕ
too_long = 105 ∷ 110 ∷ 112 ∷ 117 ∷ 116 ∷ 32 ∷ 116 ∷ 111 ∷ 111 ∷ 32 ∷ 108 ∷ 111 ∷ 110 ∷ 103 ∷ 10 ∷ []

-- T24: the input's first line: "call party rpart rkey tpart tkey fields"
unfoldable pub input_names : List ℕ
input_names =
    99 ∷ 97 ∷ 108 ∷ 108 ∷ 32 ∷ 112 ∷ 97 ∷ 114 ∷ 116 ∷ 121 ∷ 32 ∷ 114 ∷ 112 ∷ 97 ∷ 114 ∷ 116 ∷ 32 ∷ 114 ∷ 107 ∷ 101 ∷ 121 ∷ 32 ∷ 116 ∷ 112
    ∷ 97 ∷ 114 ∷ 116 ∷ 32 ∷ 116 ∷ 107 ∷ 101 ∷ 121 ∷ 32 ∷ 102 ∷ 105 ∷ 101 ∷ 108 ∷ 100 ∷ 115 ∷ []

-- T24: the output's first line: "line answer fields" and a line feed
unfoldable pub output_names : List ℕ
output_names =
    108 ∷ 105 ∷ 110 ∷ 101 ∷ 32 ∷ 97 ∷ 110 ∷ 115 ∷ 119 ∷ 101 ∷ 114 ∷ 32 ∷ 102 ∷ 105 ∷ 101 ∷ 108 ∷ 100 ∷ 115 ∷ 10 ∷ []

-- T25: what stands after the last line feed is no line: it is empty, or unreadable
abbrev pub at_end : ℕ → List ℕ → List ℕ
at_end n [] = []
at_end n (b ∷ bs) = unreadable n

abbrev pub printed : ℕ → Stepped → (Phase → List ℕ) → List ℕ
printed n none more = unreadable n
printed n (some s) more = s.1 ++ more s.0

-- T20, T22, T25: the output from line n on, by the parts that line feeds (10) end and the one after the last
abbrev pub transcript : Phase → ℕ → List (List ℕ) → List ℕ
transcript ph n [] = []
transcript ph n (l ∷ []) = at_end n l
transcript ph n (l ∷ m ∷ ls) = printed n (line_step ph l) (λ ph'. transcript ph' (suc n) (m ∷ ls))

-- T24: the first line is the names line, or unreadable; so is an empty input
abbrev pub from_start : List (List ℕ) → List ℕ
from_start [] = unreadable 1
from_start (l ∷ []) = unreadable 1
from_start (l ∷ m ∷ ls) = cond (same l input_names) (output_names ++ transcript (giving (zeros 16)) 2 (m ∷ ls)) (unreadable 1)

-- T23 to T25: the output
unfoldable pub output : List ℕ → List ℕ
output input = cond (ltb 65536 (length input)) too_long (from_start (parts 10 input))
