-- The calls on a state: when each is refused, what it answers, and what it leaves.
use Rattle.std.specs.Prelude.{Bool, true, false, not, ◌||◌, cond, List, [], ◌∷◌, ◌++◌, map, ℕ, leb, ltb, eqb, ℤ, length, take, drop}
use Rattle.std.proofs.Math.Option.{Option, none, some}
use Rattle.rules.specs.Lists.{all, first, without}
use Rattle.rules.specs.Names.{parties, Name, key, key_in_range, common_names}
use Rattle.rules.specs.Fields.{put_field, template_field, names_in}
use Rattle.rules.specs.Partitions.{Reading}
use Rattle.rules.specs.Matching.{Pair, stored_pair, Entry, Op, looking, receiving, taking, matches}
use Rattle.rules.specs.State.{State, holds, give_all, give_each, with_entries, live, limit_of}

-- G2: a call after the opening. R is what a look, receive or take has of its result words: the words themselves where it is made,
-- their number alone where calls are compared
pub data Call (R : Type 0) : Type 0 where
  -- the party, the read pair, the take pair, the fields
  put : ℕ → Pair ℤ → Pair ℤ → List ℕ → Call R
  -- look, receive or take, the party, the template's pair and fields, the result words
  seek : Op → ℕ → Pair ℤ → List ℕ → R → Call R

abbrev pub party_of : {R : Type 0} → Call R → ℕ
party_of (put who r t fs) = who
party_of (seek op who p t result) = who

-- C5: "done", "found" with the field count, "none", or the refusal's number
pub data Answer : Type 0 where
  done : Answer
  found : ℕ → Answer
  nothing : Answer
  refused : ℕ → Answer

-- ---- C7: refusals: a table is a list of tests, each with its number, and the first that applies decides

abbrev pub Table : Type 0
Table = List (Bool × ℕ)

abbrev pub first_that_applies : Table → Option ℕ
first_that_applies [] = none
first_that_applies (t ∷ ts) = cond t.0 (some t.1) (first_that_applies ts)

-- R3
abbrev pub bad_count : List ℕ → Bool
bad_count fs = eqb (length fs) 0 || ltb 8 (length fs)

-- C6, R14: the keys that pairs name
abbrev pub keys_in : List (Pair ℕ) → List Name
keys_in ps = map (λ p. key p.key) ps

-- R13, R14, R7, by whether the partitions of pairs, their keys and the names in fields are held
abbrev pub held_tests : Bool → Bool → Bool → Table
held_tests partitions keys carried = (not partitions, 13) ∷ (not keys, 14) ∷ (not carried, 7) ∷ []

-- R6: fewer result words than fields
abbrev pub short_test : List ℕ → ℕ → Table
short_test t room = (ltb room (length t), 6) ∷ []

-- R8: as many of the party's entries are live as may be
abbrev pub full_test : State → ℕ → Table
full_test s who = (leb (limit_of s who) (live who s.entries), 8) ∷ []

-- the tests that ask what the partition word of a pair stands for
module _ (R : Reading) where
  -- R4
  abbrev pub bad_pair : Pair ℤ → Bool
  bad_pair p = not (R.in_range p.partitions) || not (key_in_range p.key)

  -- C6, R13: the partitions that pairs name
  abbrev pub partitions_in : List (Pair ℕ) → List Name
  partitions_in [] = []
  partitions_in (p ∷ ps) = R.names p.partitions ++ partitions_in ps

  -- C6, R13, R14, R7: the tests of names, by a call's pairs and fields
  abbrev pub name_tests : State → ℕ → List (Pair ℕ) → List ℕ → Table
  name_tests s who ps fs =
      held_tests (all (holds s who) (partitions_in ps)) (all (holds s who) (keys_in ps)) (all (holds s who) (names_in fs))

  -- R2 to R5: the tests that a put begins with, before those that are left
  abbrev pub put_tests : Table → ℕ → Pair ℤ → Pair ℤ → List ℕ → Table
  put_tests left who r t fs =
      (ltb 7 who, 2)
      ∷ (bad_count fs, 3)
      ∷ (bad_pair r || bad_pair t, 4)
      ∷ (not (all put_field fs), 5)
      ∷ left

  -- R2 to R5: the same of a look, receive or take
  abbrev pub seek_tests : Table → ℕ → Pair ℤ → List ℕ → Table
  seek_tests left who p t =
      (ltb 7 who, 2)
      ∷ (bad_count t, 3)
      ∷ (bad_pair p, 4)
      ∷ (not (all template_field t), 5)
      ∷ left

  -- C7: the table of a put: R2 to R5, R13, R14, R7, R8
  unfoldable pub put_table : State → ℕ → Pair ℤ → Pair ℤ → List ℕ → Table
  put_table s who r t fs = put_tests (name_tests s who (stored_pair r ∷ stored_pair t ∷ []) fs ++ full_test s who) who r t fs

  -- C7: the table of a look, receive or take: R2 to R5, R13, R14, R7, R6
  unfoldable pub seek_table : State → ℕ → Pair ℤ → List ℕ → ℕ → Table
  seek_table s who p t room = seek_tests (name_tests s who (stored_pair p ∷ []) t ++ short_test t room) who p t

  abbrev pub table : State → Call ℕ → Table
  table s (put who r t fs) = put_table s who r t fs
  table s (seek op who p t room) = seek_table s who p t room

-- ---- what a call answers and leaves

pub record Outcome : Type 0 where
  pub answer : Answer
  pub fields : List ℕ
  pub state : State

abbrev pub unchanged : Answer → State → Outcome
unchanged a s = record { answer = a; fields = []; state = s }

-- C2: the entry that a put makes
abbrev pub entry_of : ℕ → Pair ℤ → Pair ℤ → List ℕ → Entry
entry_of who r t fs = record { writer = who; read_pair = stored_pair r; take_pair = stored_pair t; fields = fs }

-- C2: the entry becomes the newest
abbrev pub served : Entry → State → Outcome
served e s = record { answer = done; fields = []; state = with_entries (s.entries ++ (e ∷ [])) s }

-- C4: whether the operation removes what it finds
abbrev pub removes : Op → Bool
removes looking = false
removes receiving = false
removes taking = true

-- C3, C4, C8: the entries left once the oldest match is found
abbrev pub remaining : Op → (Entry → Bool) → List Entry → List Entry
remaining op m es = cond (removes op) (without m es) es

-- C3, C4, C8: whether the operation grants its party the names in what it finds
abbrev pub grants : Op → Bool
grants looking = false
grants receiving = true
grants taking = true

-- C3, C4, C8: the names that the party gains; of a carried key the key alone, not its co-key
abbrev pub gained : Op → Entry → List Name
gained op e = cond (grants op) (names_in e.fields) []

-- C3 to C5, C8: by what the search found: nothing, or the oldest match
abbrev pub finding : Op → ℕ → Option Entry → List Entry → State → Outcome
finding op who none es s = unchanged nothing s
finding op who (some e) es s =
    record { answer = found (length e.fields); fields = e.fields; state = give_all who (gained op e) (with_entries es s) }

-- M5: the search, oldest first
abbrev pub sought : Op → ℕ → (Entry → Bool) → State → Outcome
sought op who m s = finding op who (first m s.entries) (remaining op m s.entries) s

-- C7: refused by a number and nothing changed, or served
abbrev pub decided : Option ℕ → Outcome → State → Outcome
decided (some n) o s = unchanged (refused n) s
decided none o s = o

module _ (R : Reading) where
  -- C2 to C4, C8: a call that no test turns away
  abbrev pub serve : State → Call ℕ → Outcome
  serve s (put who r t fs) = served (entry_of who r t fs) s
  serve s (seek op who p t room) = sought op who (matches R op (stored_pair p) t) s

  -- one call on a state
  unfoldable pub step : State → Call ℕ → Outcome
  step s c = decided (first_that_applies (table R s c)) (serve s c) s

-- C1: no entries, and each party holds what the roster lists for it and, besides, the names
abbrev pub opened_with : List Name → List ℕ → State
opened_with names roster = give_each parties names (record { partitions = take 8 roster; keys = drop 8 roster; entries = [] })

-- C1: the state that an opening leaves
unfoldable pub opened : List ℕ → State
opened roster = opened_with common_names roster
