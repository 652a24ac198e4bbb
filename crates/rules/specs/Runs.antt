-- Runs: an opening answered "done", then a list of puts, looks, receives and takes, each on the words that the one before left.
use Rattle.std.specs.Prelude.{Bool, true, false, not, ◌&&◌, cond, List, [], ◌∷◌, ◌++◌, ℕ, take}
use Rattle.rules.specs.Partitions.{Reading, sets}
use Rattle.rules.specs.Matching.{stored_pair, Entry, looking, receiving, taking, matches}
use Rattle.rules.specs.State.{State}
use Rattle.rules.specs.Calls.{Call, put, seek, Answer, done, found, nothing, refused, Outcome, entry_of, step}
use Rattle.rules.specs.Words.{Exit, call}

-- G1: the words that a list of calls leaves
abbrev pub run : List ℕ → List (Call (List ℕ)) → List ℕ
run ws [] = ws
run ws (c ∷ cs) = run (call ws c).space cs

-- G8: a call's fields: after "found" with count n the first n result words, otherwise none
abbrev pub found_in : Answer → List ℕ → List ℕ
found_in done result = []
found_in (found n) result = take n result
found_in nothing result = []
found_in (refused n) result = []

-- G8: a call's answer and its fields
abbrev pub Reply : Type 0
Reply = Answer × List ℕ

abbrev pub reply : Exit → Reply
reply x = (x.answer, found_in x.answer x.result)

-- the replies of the calls that pass a test, in order
abbrev pub replies : (Call (List ℕ) → Bool) → List ℕ → List (Call (List ℕ)) → List Reply
replies p ws [] = []
replies p ws (c ∷ cs) = cond (p c) (reply (call ws c) ∷ replies p (call ws c).space cs) (replies p (call ws c).space cs)

-- G8: the same on states
abbrev pub state_reply : Outcome → Reply
state_reply o = (o.answer, o.fields)

module _ (R : Reading) where
  -- G1: the state that a list of calls leaves
  abbrev pub state_run : State → List (Call ℕ) → State
  state_run s [] = s
  state_run s (c ∷ cs) = state_run (step R s c).state cs

  abbrev pub state_replies : (Call ℕ → Bool) → State → List (Call ℕ) → List Reply
  state_replies p s [] = []
  state_replies p s (c ∷ cs) =
      cond (p c) (state_reply (step R s c) ∷ state_replies p (step R s c).state cs) (state_replies p (step R s c).state cs)

-- ---- A2: the ledger of a run: each put answered "done", in order, and whether a take has found it

pub record Line : Type 0 where
  pub entry : Entry
  pub taken : Bool

abbrev pub untaken : Line → Bool
untaken l = not l.taken

-- the first line that is not taken and passes the test is taken
abbrev pub strike : (Entry → Bool) → List Line → List Line
strike m [] = []
strike m (l ∷ ls) = cond (untaken l && m l.entry) (record { entry = l.entry; taken = true } ∷ ls) (l ∷ strike m ls)

-- what one answered call does to the ledger: a put answered "done" adds a line, a take answered "found" strikes one
abbrev pub recorded : Call (List ℕ) → Answer → List Line → List Line
recorded (put who r t fs) done ls = ls ++ (record { entry = entry_of who r t fs; taken = false } ∷ [])
recorded (put who r t fs) (found n) ls = ls
recorded (put who r t fs) nothing ls = ls
recorded (put who r t fs) (refused n) ls = ls
recorded (seek looking who p t result) a ls = ls
recorded (seek receiving who p t result) a ls = ls
recorded (seek taking who p t result) done ls = ls
recorded (seek taking who p t result) (found n) ls = strike (matches sets taking (stored_pair p) t) ls
recorded (seek taking who p t result) nothing ls = ls
recorded (seek taking who p t result) (refused n) ls = ls

abbrev pub ledger : List ℕ → List (Call (List ℕ)) → List Line → List Line
ledger ws [] ls = ls
ledger ws (c ∷ cs) ls = ledger (call ws c).space cs (recorded c (call ws c).answer ls)
