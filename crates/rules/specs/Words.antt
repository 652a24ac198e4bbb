-- The space as 1,809 words: the layout, when it is sound, and the calls on words, which the contracts cite.
use Rattle.std.specs.Prelude.{Bool, not, ◌&&◌, ◌||◌, cond, List, [], ◌∷◌, ◌++◌, ℕ, zero, suc, ◌+◌, ◌-◌, ◌*◌, leb, eqb, length, get_or, take, drop, replicate}
use Rattle.std.proofs.Math.Option.{Option, none, some}
use Rattle.rules.specs.Lists.{all}
use Rattle.rules.specs.Names.{parties, bit, common_names}
use Rattle.rules.specs.Partitions.{sets}
use Rattle.rules.specs.Fields.{put_field}
use Rattle.rules.specs.Matching.{pair, Entry}
use Rattle.rules.specs.State.{State, everyone_holds, live, limit_of}
use Rattle.rules.specs.Calls.{Call, put, seek, Answer, done, refused, Table, first_that_applies, table, Outcome, step, opened}

-- n words of 0
unfoldable pub zeros : ℕ → List ℕ
zeros n = replicate n 0

-- L4: the word at which row r starts
abbrev pub row_start : ℕ → ℕ
row_start r = 17 + 14 * r

-- L4: where the rows end; the space has no words after them yet
abbrev pub rows_end : ℕ
rows_end = row_start 128

-- L4, F6: the 14 words of an entry's row; unused field words are 0
abbrev pub row_of : Entry → List ℕ
row_of e =
    e.writer ∷ e.read_pair.partitions ∷ e.read_pair.key ∷ e.take_pair.partitions ∷ e.take_pair.key ∷ length e.fields
    ∷ (e.fields ++ zeros (8 - length e.fields))

abbrev pub rows_of : List Entry → List ℕ
rows_of [] = []
rows_of (e ∷ es) = row_of e ++ rows_of es

-- L1 to L4: the words of a state: the number of live entries, the holdings, the rows oldest first, 0 past them
unfoldable pub encode : State → List ℕ
encode s =
    length s.entries
    ∷ (s.partitions ++ (s.keys ++ (rows_of s.entries ++ zeros (14 * (128 - length s.entries)))))

-- L4: the entry of the row that the words begin with
abbrev pub entry_at : List ℕ → Entry
entry_at r =
    record {
      writer = get_or r 0 0;
      read_pair = pair (get_or r 1 0) (get_or r 2 0);
      take_pair = pair (get_or r 3 0) (get_or r 4 0);
      fields = take (get_or r 5 0) (drop 6 r);
    }

abbrev pub entries_at : ℕ → List ℕ → List Entry
entries_at zero r = []
entries_at (suc n) r = entry_at r ∷ entries_at n (drop 14 r)

-- L1 to L4: the state that the words stand for
unfoldable pub decode : List ℕ → State
decode ws =
    record { partitions = take 8 (drop 1 ws); keys = take 8 (drop 9 ws); entries = entries_at (get_or ws 0 0) (drop 17 ws) }

-- ---- soundness

abbrev pub is_zero : ℕ → Bool
is_zero w = eqb w 0

-- S6: the values before a row's fields are in range
abbrev pub head_ok : List ℕ → Bool
head_ok r =
    leb (get_or r 0 0) 7
    && (sets.in_range (get_or r 1 0)
    && (leb (get_or r 2 0) 62
    && (sets.in_range (get_or r 3 0)
    && (leb (get_or r 4 0) 62
    && (leb 1 (get_or r 5 0)
    && leb (get_or r 5 0) 8)))))

-- S6, S7: the row that the words begin with is in range, its fields are ones that a put may carry, and the rest is 0
unfoldable pub row_ok : List ℕ → Bool
row_ok r =
    head_ok r
    && (all put_field (take (get_or r 5 0) (drop 6 r))
    && all is_zero (drop (get_or r 5 0) (take 8 (drop 6 r))))

-- S6, S7, S9: n live rows, and 0 past them
abbrev pub rows_ok : ℕ → List ℕ → Bool
rows_ok zero r = all is_zero r
rows_ok (suc n) r = row_ok r && rows_ok n (drop 14 r)

-- S8
abbrev pub within_limits : State → Bool
within_limits s = all (λ who. leb (live who s.entries) (limit_of s who)) parties

-- S4, S5: everyone holds the common names, and bit 63 of each key word is clear
abbrev pub holdings_ok : State → Bool
holdings_ok s = everyone_holds common_names s && all (λ w. not (bit w 63)) s.keys

-- S1, S2, S4 to S9: "sound" in the papers: the words are a well-formed space
unfoldable pub sound : List ℕ → Bool
sound ws =
    eqb (length ws) 1809
    && (leb (get_or ws 0 0) 128
    && (holdings_ok (decode ws)
    && (rows_ok (get_or ws 0 0) (drop 17 ws)
    && within_limits (decode ws))))

-- ---- the calls on words

-- G2: what counts when calls are compared: of the result words their number alone
abbrev pub asked : Call (List ℕ) → Call ℕ
asked (put who r t fs) = put who r t fs
asked (seek op who p t result) = seek op who p t (length result)

abbrev pub result_of : Call (List ℕ) → List ℕ
result_of (put who r t fs) = []
result_of (seek op who p t result) = result

-- the answer, and every word of space and result afterwards
pub record Exit : Type 0 where
  pub answer : Answer
  pub space : List ℕ
  pub result : List ℕ

abbrev pub exit : Answer → List ℕ → List ℕ → Exit
exit a ws result = record { answer = a; space = ws; result = result }

-- C3: the found fields come first in the result, and the rest keeps its contents
abbrev pub exit_of : Outcome → List ℕ → Exit
exit_of o result = exit o.answer (encode o.state) (o.fields ++ drop (length o.fields) result)

-- R1: a space that is not sound is refused first; on a sound one the call is the state's, one step
abbrev pub on_words : (State → Call ℕ → Outcome) → List ℕ → Call (List ℕ) → Exit
on_words one ws c = cond (sound ws) (exit_of (one (decode ws) (asked c)) (result_of c)) (exit (refused 1) ws (result_of c))

unfoldable pub call : List ℕ → Call (List ℕ) → Exit
call ws c = on_words (step sets) ws c

-- R1 to R8, R13, R14: the whole table of a call on words
abbrev pub refusals : List ℕ → Call (List ℕ) → Table
refusals ws c = (not (sound ws), 1) ∷ table sets (decode ws) (asked c)

-- R9: the roster is not 16 words, or bit 63 of a key word is set
abbrev pub bad_roster : List ℕ → Bool
bad_roster roster = not (eqb (length roster) 16) || not (all (λ w. not (bit w 63)) (drop 8 roster))

-- R1, R9: the table of an opening
abbrev pub open_refusals : List ℕ → List ℕ → Table
open_refusals ws roster = (not (eqb (length ws) 1809), 1) ∷ (bad_roster roster, 9) ∷ []

abbrev pub open_by : Option ℕ → List ℕ → List ℕ → Exit
open_by (some n) ws roster = exit (refused n) ws []
open_by none ws roster = exit done (encode (opened roster)) []

-- C1: an opening: of the old contents only the length counts
unfoldable pub opening : List ℕ → List ℕ → Exit
opening ws roster = open_by (first_that_applies (open_refusals ws roster)) ws roster
