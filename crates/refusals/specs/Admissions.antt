-- What the first tests of a call come to, and what a look, receive or take is admitted as.
use Rattle.std.specs.Prelude.{Bool, not, List, [], ◌∷◌, ℕ, ltb, Result, Ok, Err}
use Rattle.std.proofs.Math.Option.{Option, none, some}
use Rattle.rules.specs.Calls.{Table, bad_count}
use Rattle.rules.specs.Words.{sound}

-- R1 to R3: the tests that the table of every call begins with
unfoldable pub first_tests : List ℕ → ℕ → List ℕ → Table
first_tests ws who fs = (not (sound ws), 1) ∷ (ltb 7 who, 2) ∷ (bad_count fs, 3) ∷ []

-- by the first that applies, and the party's live entries
unfoldable pub begun : Option ℕ → ℕ → Result ℕ ℕ
begun none n = Ok n
begun (some k) n = Err k

-- R1 to R7, R13, R14: by the verdict, and whether all fields of the template are plain: where none turns the call away, whether the
-- template has bounds
abbrev pub admitted_by : Result (Unit {0}) ℕ → Bool → Result Bool ℕ
admitted_by (Err n) p = Err n
admitted_by (Ok u) p = Ok (not p)
