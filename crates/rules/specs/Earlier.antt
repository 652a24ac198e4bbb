-- Comparisons with earlier tables of refusals: which answers are others by the table as it is, and how.
use Rattle.std.specs.Prelude.{◌≡◌, ◌≢◌, true, false, not, List, [], ◌∷◌, ◌++◌, ℕ, ◌≤◌, ◌<◌, ℤ, length}
use Rattle.rules.specs.Lists.{all, In}
use Rattle.rules.specs.Partitions.{sets}
use Rattle.rules.specs.Fields.{template_field}
use Rattle.rules.specs.Matching.{Pair, stored_pair}
use Rattle.rules.specs.State.{State, holds}
use Rattle.rules.specs.Calls.{Call, put, seek, party_of, Answer, refused, Table, first_that_applies, bad_count, bad_pair, short_test, full_test, name_tests}
use Rattle.rules.specs.Calls.{put_tests, seek_tests, table, serve, decided}
use Rattle.rules.specs.Words.{decode, sound, Exit, on_words, call}
use Rattle.rules.specs.Claims.{Iff, used_names, call_names}

-- C7: a call that this table decides, with all else as it is
abbrev pub call_with : (State → Call ℕ → Table) → List ℕ → Call (List ℕ) → Exit
call_with ts ws c = on_words (λ s c. decided (first_that_applies (ts s c)) (serve sets s c) s) ws c

-- R13, R14, R7: the answers that say which name is missing
abbrev pub missing : List Answer
missing = refused 13 ∷ refused 14 ∷ refused 7 ∷ []

-- ---- which name is missing

-- R7 as it was before R13 and R14: one test of all the names that a call uses
abbrev pub one_test : State → Call ℕ → Table
one_test s c = (not (all (holds s (party_of c)) (call_names c)), 7) ∷ []

-- the table with that test in the place of the three
abbrev pub with_one_test : State → Call ℕ → Table
with_one_test s (put who r t fs) = put_tests sets (one_test s (put who r t fs) ++ full_test s who) who r t fs
with_one_test s (seek op who p t room) = seek_tests sets (one_test s (seek op who p t room) ++ short_test t room) who p t

-- one of these exactly where that test says 7, any other answer the same, and every word
pub record ToldApart (now before : Exit) : Type 0 where
  pub missing_name : Iff (In now.answer missing) (before.answer ≡ refused 7)
  pub others : ¬ (In now.answer missing) → now.answer ≡ before.answer
  pub space : now.space ≡ before.space
  pub result : now.result ≡ before.result

abbrev pub MissingNameToldApart : Type 0
MissingNameToldApart = (ws : List ℕ) (c : Call (List ℕ)) → ToldApart (call ws c) (call_with with_one_test ws c)

-- ---- a short result and a missing name

-- R6 as it was, before R13, R14 and R7: the table with the two exchanged
abbrev pub short_first : State → Call ℕ → Table
short_first s (put who r t fs) = table sets s (put who r t fs)
short_first s (seek op who p t room) = seek_tests sets (short_test t room ++ name_tests sets s who (stored_pair p ∷ []) t) who p t

-- R1 to R5 don't apply, the result is short, and a name that the call uses isn't held
pub record ShortAndLacking (ws : List ℕ) (who : ℕ) (p : Pair ℤ) (t result : List ℕ) : Type 0 where
  pub one : sound ws ≡ true
  pub two : who ≤ 7
  pub three : bad_count t ≡ false
  pub four : bad_pair sets p ≡ false
  pub five : all template_field t ≡ true
  pub short : length result < length t
  pub lacking : all (holds (decode ws) who) (used_names (stored_pair p ∷ []) t) ≡ false

-- the calls whose answer is another; a put has no result
abbrev pub Moves : List ℕ → Call (List ℕ) → Type 0
Moves ws (put who r t fs) = ⊥
Moves ws (seek op who p t result) = ShortAndLacking ws who p t result

-- the answers differ exactly if the call moves: then it was 6, and is that of a missing name; no word differs
pub record NamesFirst (moves : Type 0) (now before : Exit) : Type 0 where
  pub differs : Iff (now.answer ≢ before.answer) moves
  pub was : moves → before.answer ≡ refused 6
  pub is : moves → In now.answer missing
  pub space : now.space ≡ before.space
  pub result : now.result ≡ before.result

abbrev pub NamesComeFirst : Type 0
NamesComeFirst = (ws : List ℕ) (c : Call (List ℕ)) → NamesFirst (Moves ws c) (call ws c) (call_with short_first ws c)
