-- The answers as C has them.
use Rattle.std.specs.Prelude.{◌≡◌, cond, List, ℕ, ◌+◌, eqb, length}
use Rattle.rules.specs.Calls.{Answer, done, found, nothing, refused}
use Rattle.rules.specs.Words.{Exit}
use Rattle.roster_file.specs.File as file
use Rattle.roster_file.specs.File.{Outcome, read_file}
use Rattle.start_order.specs.Call as start
use Rattle.start_order.specs.Call.{result_after}

-- C5: 0 is "done" and "none", 1 to 8 is "found" with that count, 100 plus its number a refusal
abbrev pub code_of : Answer → ℕ
code_of done = 0
code_of (found n) = n
code_of nothing = 0
code_of (refused n) = 100 + n

-- the code, and every word of space and result afterwards, are what the call's exit gives
pub record Left (r : ℕ) (ws result : List ℕ) (x : Exit) : Type 0 where
  pub code : r ≡ code_of x.answer
  pub space : ws ≡ x.space
  pub words : result ≡ x.result

-- R9 to R12: what a file gives to lent words: they have to be 16
unfoldable pub read_into : List ℕ → List ℕ → Outcome
read_into bytes words = cond (eqb (length words) 16) (read_file bytes) (file.refused 9)

-- D5: 0, or 100 plus the refusal's number; the words hold the roster, or what they held
abbrev pub code_of_file : Outcome → ℕ
code_of_file (file.accepted roster) = 0
code_of_file (file.refused n) = 100 + n

abbrev pub words_of : Outcome → List ℕ → List ℕ
words_of (file.accepted roster) words = roster
words_of (file.refused n) words = words

pub record Read (r : ℕ) (lent after : List ℕ) (o : Outcome) : Type 0 where
  pub code : r ≡ code_of_file o
  pub words : after ≡ words_of o lent

-- O5: 0 for an order, the party and 1 for a circle, 100 plus the refusal's number
abbrev pub code_of_start : start.Outcome → ℕ
code_of_start (start.ordered ws) = 0
code_of_start (start.circle p) = p + 1
code_of_start (start.refused n) = 100 + n

pub record Started (r : ℕ) (lent after : List ℕ) (o : start.Outcome) : Type 0 where
  pub code : r ≡ code_of_start o
  pub words : after ≡ result_after o lent
