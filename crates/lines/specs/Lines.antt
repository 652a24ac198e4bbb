-- A line of the console's input: seven items, read as a gift to the roster or as a call.
use Rattle.std.specs.Prelude.{Bool, not, ◌&&◌, cond, List, [], ◌∷◌, ℕ, zero, suc, eqb, leb, ℤ}
use Rattle.std.proofs.Math.Option.{Option, none, some}
use Rattle.rules.specs.Names.{key_in_range, stored}
use Rattle.rules.specs.Matching.{Pair, pair, Op, looking, receiving, taking}
use Rattle.rules.specs.Calls.{Call, put, seek}
use Rattle.rules.specs.Words.{zeros}
use Rattle.text.specs.Numbers.{unsigned, signed}
use Rattle.text.specs.Partitions.{read_partitions}
use Rattle.numbers.specs.Parts.{before, same}
use Rattle.text.specs.Fields.{read_fields}

-- T15: the bytes past the first blank
abbrev pub past_blank : List ℕ → List ℕ
past_blank [] = []
past_blank (b ∷ bs) = cond (eqb b 32) bs (past_blank bs)

-- T15: item i of a line, counted from 0
abbrev pub item : ℕ → List ℕ → List ℕ
item zero line = before 32 line
item (suc i) line = item i (past_blank line)

-- T15: how many blanks a line has
abbrev pub blanks : List ℕ → ℕ
blanks [] = 0
blanks (b ∷ bs) = cond (eqb b 32) (suc (blanks bs)) (blanks bs)

-- the words of the format: "give"
abbrev pub give_word : List ℕ
give_word = 103 ∷ 105 ∷ 118 ∷ 101 ∷ []

-- "put"
abbrev pub put_word : List ℕ
put_word = 112 ∷ 117 ∷ 116 ∷ []

-- "look"
abbrev pub look_word : List ℕ
look_word = 108 ∷ 111 ∷ 111 ∷ 107 ∷ []

-- "receive"
abbrev pub receive_word : List ℕ
receive_word = 114 ∷ 101 ∷ 99 ∷ 101 ∷ 105 ∷ 118 ∷ 101 ∷ []

-- "take"
abbrev pub take_word : List ℕ
take_word = 116 ∷ 97 ∷ 107 ∷ 101 ∷ []

-- "-"
abbrev pub dash : List ℕ
dash = 45 ∷ []

-- T11: what a line asks for
pub data Line : Type 0 where
  -- a party is given a partition, a stored key, both or neither
  give : ℕ → Option ℕ → Option ℕ → Line
  ask : Call (List ℕ) → Line

-- T12: a name that a gift may leave out: `-`, or a number that passes the test
abbrev pub optional : {A : Type 0} → (A → Bool) → (A → ℕ) → List ℕ → Option A → Option (Option ℕ)
optional ok f text none = cond (same text dash) (some none) none
optional ok f text (some v) = cond (ok v) (some (some (f v))) none

abbrev pub gift_of : Option ℕ → Option (Option ℕ) → Option (Option ℕ) → Option Line
gift_of none p k = none
gift_of (some who) none k = none
gift_of (some who) (some p) none = none
gift_of (some who) (some p) (some k) = cond (leb who 7) (some (give who p k)) none

-- T12: party 0 to 7, a partition 0 to 63 or `-`, a key -31 to 31 or `-`, three times `-`
unfoldable pub read_give : List ℕ → Option Line
read_give line =
    cond (same (item 4 line) dash && (same (item 5 line) dash && same (item 6 line) dash))
    (gift_of (unsigned (item 1 line))
    (optional (λ p. leb p 63) (λ p. p) (item 2 line) (unsigned (item 2 line)))
    (optional key_in_range stored (item 3 line) (signed (item 3 line))))
    none

abbrev pub pair_of : Option ℕ → Option ℤ → Option (Pair ℤ)
pair_of none k = none
pair_of (some p) none = none
pair_of (some p) (some k) = some (pair p k)

-- T13, T14: the pair in items i and i + 1: a set and a signed key
abbrev pub read_pair : ℕ → List ℕ → Option (Pair ℤ)
read_pair i line = pair_of (read_partitions (item i line)) (signed (item (suc i) line))

abbrev pub put_of : Option ℕ → Option (Pair ℤ) → Option (Pair ℤ) → Option (List ℕ) → Option Line
put_of none r t fs = none
put_of (some who) none t fs = none
put_of (some who) (some r) none fs = none
put_of (some who) (some r) (some t) none = none
put_of (some who) (some r) (some t) (some fs) = some (ask (put who r t fs))

-- T13: party, both pairs, fields
unfoldable pub read_put : List ℕ → Option Line
read_put line = put_of (unsigned (item 1 line)) (read_pair 2 line) (read_pair 4 line) (read_fields (item 6 line))

abbrev pub seek_of : Op → Option ℕ → Option (Pair ℤ) → Option (List ℕ) → Option Line
seek_of op none p t = none
seek_of op (some who) none t = none
seek_of op (some who) (some p) none = none
seek_of op (some who) (some p) (some t) = some (ask (seek op who p t (zeros 8)))

-- T14: party, the template's pair, twice `-`, the template's fields; eight result words are lent
unfoldable pub read_seek : Op → List ℕ → Option Line
read_seek op line =
    cond (same (item 4 line) dash && same (item 5 line) dash)
    (seek_of op (unsigned (item 1 line)) (read_pair 2 line) (read_fields (item 6 line)))
    none

-- T11: the operation that a word names
abbrev pub op_of : List ℕ → Option Op
op_of word =
    cond (same word look_word) (some looking)
    (cond (same word receive_word) (some receiving)
    (cond (same word take_word) (some taking)
    none))

abbrev pub read_seek_by : Option Op → List ℕ → Option Line
read_seek_by none line = none
read_seek_by (some op) line = read_seek op line

-- T15, T11: seven items with one blank between, by the first; none where the line is unreadable
unfoldable pub read_line : List ℕ → Option Line
read_line line =
    cond (not (eqb (blanks line) 6)) none
    (cond (same (item 0 line) give_word) (read_give line)
    (cond (same (item 0 line) put_word) (read_put line)
    (read_seek_by (op_of (item 0 line)) line)))
