-- The claims of demands 1 and 2, and a comparison of sets with single partitions. All are about the definitions that the contracts
-- cite. Demand 3 is `Isolation`, in Group.
use Rattle.std.specs.Prelude.{◌≡◌, ◌⊎◌, ◌≢◌, true, false, List, [], ◌∷◌, ◌++◌, map, ℕ, suc, ◌+◌, ◌*◌, ◌≤◌, ◌<◌, ℤ, length, get_or, take, drop}
use Rattle.std.proofs.Math.Option.{none}
use Rattle.rules.specs.Lists.{all, keep, All, In}
use Rattle.rules.specs.Names.{Name, partition, key, NameInRange, key_in_range, co_key, stored, co_stored, common_names, bit, held_in}
use Rattle.rules.specs.Partitions.{only, sets, singles}
use Rattle.rules.specs.Fields.{message, name, wildcard, field, name_word, is_bound, put_field, names_in, field_agrees}
use Rattle.rules.specs.Matching.{Pair, pair, stored_pair, Entry, Op, looking, receiving, taking, pair_for, matches}
use Rattle.rules.specs.State.{State, holds, live, wrote}
use Rattle.rules.specs.Calls.{Call, put, seek, done, found, nothing, refused, Table, first_that_applies, bad_count, bad_pair}
use Rattle.rules.specs.Calls.{partitions_in, keys_in, opened}
use Rattle.rules.specs.Words.{decode, sound, asked, result_of, call, refusals, bad_roster, open_refusals, opening}
use Rattle.rules.specs.Runs.{run, replies, state_replies, untaken, ledger}

-- both ways
abbrev pub Iff : Type 0 → Type 0 → Type 0
Iff A B = (A → B) × (B → A)

-- ---- demand 1

-- the call leaves every word of space and result as it was
abbrev pub ChangesNothing : List ℕ → Call (List ℕ) → Type 0
ChangesNothing ws c = ((call ws c).space ≡ ws) × ((call ws c).result ≡ result_of c)

abbrev pub RefusalChangesNothing : Type 0
RefusalChangesNothing = (ws : List ℕ) (c : Call (List ℕ)) (n : ℕ) → (call ws c).answer ≡ refused n → ChangesNothing ws c

abbrev pub NoneChangesNothing : Type 0
NoneChangesNothing = (ws : List ℕ) (c : Call (List ℕ)) → (call ws c).answer ≡ nothing → ChangesNothing ws c

abbrev pub RefusedOpeningChangesNothing : Type 0
RefusedOpeningChangesNothing = (ws roster : List ℕ) (n : ℕ) → (opening ws roster).answer ≡ refused n → (opening ws roster).space ≡ ws

-- a number is the table's first that applies: its own test applies, and no earlier one does
pub record FirstApplies (ts : Table) (n : ℕ) : Type 0 where
  pub before : Table
  pub after : Table
  pub table : ts ≡ before ++ ((true, n) ∷ after)
  pub none_before : All (λ t. t.0 ≡ false) before

abbrev pub FirstRefusalDecides : Type 0
FirstRefusalDecides = (ws : List ℕ) (c : Call (List ℕ)) (n : ℕ) → Iff ((call ws c).answer ≡ refused n) (FirstApplies (refusals ws c) n)

abbrev pub FirstOpenRefusalDecides : Type 0
FirstOpenRefusalDecides =
    (ws roster : List ℕ) (n : ℕ) → Iff ((opening ws roster).answer ≡ refused n) (FirstApplies (open_refusals ws roster) n)

abbrev pub SoundStaysSound : Type 0
SoundStaysSound = (ws : List ℕ) (c : Call (List ℕ)) → sound ws ≡ true → sound (call ws c).space ≡ true

-- any 1,809 words, with a roster that is not turned away
abbrev pub OpeningIsSound : Type 0
OpeningIsSound =
    (ws roster : List ℕ) → length ws ≡ 1809 → bad_roster roster ≡ false
    → ((opening ws roster).answer ≡ done) × (sound (opening ws roster).space ≡ true)

-- ---- demand 2

-- the call is turned away by no test
abbrev pub Passes : List ℕ → Call (List ℕ) → Type 0
Passes ws c = first_that_applies (refusals ws c) ≡ none

-- F1, F2: a field word is that of a name exactly if it is the name's kind and value and the name is in range
abbrev pub NameWords : Type 0
NameWords = (w : ℕ) (n : Name) → Iff (field w ≡ name n) ((w ≡ name_word n) × NameInRange n)

-- F1, F2: a field word is that of a message exactly if it is the message, which has 32 bits
abbrev pub MessageWords : Type 0
MessageWords = (w v : ℕ) → Iff (field w ≡ message v) ((w ≡ v) × (v < 4294967296))

-- M2: a bound, the word of kind 4 or 5 and a value, agrees exactly with the messages in its range
pub record BoundAgrees (v f : ℕ) : Type 0 where
  pub at_least : Iff (field_agrees (4 * 4294967296 + v) f ≡ true) ((field f ≡ message f) × (v ≤ f))
  pub at_most : Iff (field_agrees (5 * 4294967296 + v) f ≡ true) ((field f ≡ message f) × (f ≤ v))

abbrev pub BoundsAgree : Type 0
BoundsAgree = (v f : ℕ) → v < 4294967296 → BoundAgrees v f

-- M3: a partition that is in both sets
pub record Shared (t e : ℕ) : Type 0 where
  pub common : ℕ
  pub is_partition : common ≤ 63
  pub in_template : bit t common ≡ true
  pub in_entry : bit e common ≡ true

-- M1 to M4, clause by clause; what it is for a template's field to agree with an entry's is left open
pub record Matches (Agree : ℕ → ℕ → Type 0) (op : Op) (p : Pair ℕ) (t : List ℕ) (e : Entry) : Type 0 where
  pub counts : length t ≡ length e.fields
  pub fields : (i : ℕ) → i < length t → Agree (get_or t i 0) (get_or e.fields i 0)
  pub partitions : Shared p.partitions (pair_for op e).partitions
  pub keys : co_stored (pair_for op e).key ≡ p.key

abbrev pub MatchingRule : Type 0
MatchingRule =
    (op : Op) (p : Pair ℕ) (t : List ℕ) (e : Entry) → Iff (matches sets op p t e ≡ true) (Matches (λ t f. field_agrees t f ≡ true) op p t e)

-- M2: where a template has no bounds, each of its fields has to be the wildcard or the entry's very word
abbrev pub MatchingWithoutBounds : Type 0
MatchingWithoutBounds =
    (op : Op) (p : Pair ℕ) (t : List ℕ) (e : Entry) → All (λ w. is_bound (field w) ≡ false) t
    → Iff (matches sets op p t e ≡ true) (Matches (λ t f. (field t ≡ wildcard) ⊎ (t ≡ f)) op p t e)

-- the stored co-key is the co-key, stored
abbrev pub StoredCoKey : Type 0
StoredCoKey = (k : ℤ) → key_in_range k ≡ true → (co_stored (stored k) ≡ stored (co_key k)) × (stored k ≤ 62)

abbrev pub NoneExactlyWhenNothingMatches : Type 0
NoneExactlyWhenNothingMatches =
    (ws : List ℕ) (op : Op) (who : ℕ) (p : Pair ℤ) (t result : List ℕ) → Passes ws (seek op who p t result)
    → Iff ((call ws (seek op who p t result)).answer ≡ nothing)
    (All (λ e. matches sets op (stored_pair p) t e ≡ false) (decode ws).entries)

-- what is found is the oldest match; its fields come first in the result, and the rest of it is kept
pub record OldestMatch (ws : List ℕ) (op : Op) (p : Pair ℤ) (t result : List ℕ) (n : ℕ) (after : List ℕ) : Type 0 where
  pub older : List Entry
  pub entry : Entry
  pub newer : List Entry
  pub place : (decode ws).entries ≡ older ++ (entry ∷ newer)
  pub no_older : All (λ e. matches sets op (stored_pair p) t e ≡ false) older
  pub match : matches sets op (stored_pair p) t entry ≡ true
  pub count : n ≡ length entry.fields
  pub written : after ≡ entry.fields ++ drop n result

abbrev pub FoundIsOldestMatch : Type 0
FoundIsOldestMatch =
    (ws : List ℕ) (op : Op) (who : ℕ) (p : Pair ℤ) (t result : List ℕ) (n : ℕ)
    → (call ws (seek op who p t result)).answer ≡ found n
    → OldestMatch ws op p t result n (call ws (seek op who p t result)).result

-- C4: the entry is gone and the rest keeps its order; its writer is charged for one entry less, and nobody else's charge changes
pub record Removed (older : List Entry) (entry : Entry) (newer : List Entry) (ws after : List ℕ) : Type 0 where
  pub rest : (decode after).entries ≡ older ++ newer
  pub writer : live entry.writer (decode ws).entries ≡ suc (live entry.writer (decode after).entries)
  pub others : (who : ℕ) → who ≢ entry.writer → live who (decode after).entries ≡ live who (decode ws).entries

-- C4: a take removes the oldest match
abbrev pub TakeRemoves : Type 0
TakeRemoves =
    (ws : List ℕ) (who : ℕ) (p : Pair ℤ) (t result : List ℕ) (n : ℕ)
    → (call ws (seek taking who p t result)).answer ≡ found n
    → (m : OldestMatch ws taking p t result n (call ws (seek taking who p t result)).result)
    → Removed m.older m.entry m.newer ws (call ws (seek taking who p t result)).space

-- C3: a receive removes nothing, whatever it answers
abbrev pub ReceiveRemovesNothing : Type 0
ReceiveRemovesNothing =
    (ws : List ℕ) (who : ℕ) (p : Pair ℤ) (t result : List ℕ)
    → (decode (call ws (seek receiving who p t result)).space).entries ≡ (decode ws).entries

-- C8: a look changes no word of the space, whatever it answers
abbrev pub LookChangesNoWord : Type 0
LookChangesNoWord =
    (ws : List ℕ) (who : ℕ) (p : Pair ℤ) (t result : List ℕ) → (call ws (seek looking who p t result)).space ≡ ws

-- C8: a look answers what a receive on the same space does, and leaves the same result words
abbrev pub LookAnswersAsReceive : Type 0
LookAnswersAsReceive =
    (ws : List ℕ) (who : ℕ) (p : Pair ℤ) (t result : List ℕ)
    → ((call ws (seek looking who p t result)).answer ≡ (call ws (seek receiving who p t result)).answer)
    × ((call ws (seek looking who p t result)).result ≡ (call ws (seek receiving who p t result)).result)

-- no test that comes before R8's turns the put away
pub record PassesBeforeEight (ws : List ℕ) (who : ℕ) (r t : Pair ℤ) (fs : List ℕ) : Type 0 where
  pub one : sound ws ≡ true
  pub two : who ≤ 7
  pub three : bad_count fs ≡ false
  pub four_read : bad_pair sets r ≡ false
  pub four_take : bad_pair sets t ≡ false
  pub five : all put_field fs ≡ true
  pub thirteen : all (holds (decode ws) who) (partitions_in sets (stored_pair r ∷ stored_pair t ∷ [])) ≡ true
  pub fourteen : all (holds (decode ws) who) (keys_in (stored_pair r ∷ stored_pair t ∷ [])) ≡ true
  pub seven : all (holds (decode ws) who) (names_in fs) ≡ true

abbrev pub NoRoomExactlyAtSixteen : Type 0
NoRoomExactlyAtSixteen =
    (ws : List ℕ) (who : ℕ) (r t : Pair ℤ) (fs : List ℕ) → PassesBeforeEight ws who r t fs
    → Iff ((call ws (put who r t fs)).answer ≡ refused 8) (live who (decode ws).entries ≡ 16)

-- R6: the result is all that is wrong: it is short, and with enough words, whatever they contain, no test turns the call away
pub record OnlyShort (ws : List ℕ) (op : Op) (who : ℕ) (p : Pair ℤ) (t result : List ℕ) : Type 0 where
  pub short : length result < length t
  pub otherwise : (lent : List ℕ) → length t ≤ length lent → Passes ws (seek op who p t lent)

abbrev pub SixExactlyIfOnlyShort : Type 0
SixExactlyIfOnlyShort =
    (ws : List ℕ) (op : Op) (who : ℕ) (p : Pair ℤ) (t result : List ℕ)
    → Iff ((call ws (seek op who p t result)).answer ≡ refused 6) (OnlyShort ws op who p t result)

abbrev pub RowsSuffice : Type 0
RowsSuffice =
    (ws : List ℕ) → sound ws ≡ true
    → (length (decode ws).entries ≤ 128)
    × ((who : ℕ) (r t : Pair ℤ) (fs : List ℕ) → Passes ws (put who r t fs) → length (decode ws).entries < 128)

-- A2: over a run from an opening the live entries, and so each writer's, are the puts answered "done" less those that a take
-- has found, in order
abbrev pub LiveAreThePutsNotTaken : Type 0
LiveAreThePutsNotTaken =
    (old roster : List ℕ) → (opening old roster).answer ≡ done → (cs : List (Call (List ℕ))) (who : ℕ)
    → keep (wrote who) (decode (run (opening old roster).space cs)).entries
    ≡ keep (wrote who) (map (λ l. l.entry) (keep untaken (ledger (opening old roster).space cs [])))

-- ---- who holds what

-- C1: what an opening leaves: no entry is live, and each party holds what its two roster words say and, besides, the common names.
-- This is said of every name; one out of range nobody holds, as a word has 64 bits and R9 keeps bit 63 of a key word clear
pub record OpenedWith (roster after : List ℕ) : Type 0 where
  pub no_entry : (decode after).entries ≡ []
  pub holdings : (who : ℕ) (n : Name) → who < 8
      → Iff (holds (decode after) who n ≡ true) ((held_in (get_or roster who 0) (get_or roster (8 + who) 0) n ≡ true) ⊎ In n common_names)

abbrev pub OpeningHoldings : Type 0
OpeningHoldings = (ws roster : List ℕ) → (opening ws roster).answer ≡ done → OpenedWith roster (opening ws roster).space

-- F5: the names in the n fields that a call has found
abbrev pub found_names : List ℕ → Call (List ℕ) → ℕ → List Name
found_names ws c n = names_in (take n (call ws c).result)

-- C3: the party holds what it held and these names, nothing else, and nobody else's holdings change
pub record Gains (who : ℕ) (names : List Name) (ws after : List ℕ) : Type 0 where
  pub own : (n : Name) → Iff (holds (decode after) who n ≡ true) ((holds (decode ws) who n ≡ true) ⊎ In n names)
  pub others : (p : ℕ) (n : Name) → p ≢ who → holds (decode after) p n ≡ holds (decode ws) p n

-- C3, C4: a receive or take that finds gives these names
abbrev pub FoundGives : Type 0
FoundGives =
    (ws : List ℕ) (op : Op) (who : ℕ) (p : Pair ℤ) (t result : List ℕ) (n : ℕ)
    → op ≢ looking → (call ws (seek op who p t result)).answer ≡ found n
    → Gains who (found_names ws (seek op who p t result) n) ws (call ws (seek op who p t result)).space

-- C3: a carried key is gained without its co-key, unless that was held before or is carried too
abbrev pub CarriedKeyAlone : Type 0
CarriedKeyAlone =
    (ws : List ℕ) (op : Op) (who : ℕ) (p : Pair ℤ) (t result : List ℕ) (n : ℕ) (k : ℤ)
    → op ≢ looking → (call ws (seek op who p t result)).answer ≡ found n
    → In (key (stored k)) (found_names ws (seek op who p t result) n)
    → holds (decode ws) who (key (stored (co_key k))) ≡ false
    → ¬ (In (key (stored (co_key k))) (found_names ws (seek op who p t result) n))
    → (holds (decode (call ws (seek op who p t result)).space) who (key (stored k)) ≡ true)
    × (holds (decode (call ws (seek op who p t result)).space) who (key (stored (co_key k))) ≡ false)

-- C6: the names that a call uses, by its pairs and fields: those of each pair, and those that the fields carry
abbrev pub pair_names : Pair ℕ → List Name
pair_names p = sets.names p.partitions ++ (key p.key ∷ [])

abbrev pub used_names : List (Pair ℕ) → List ℕ → List Name
used_names [] fs = names_in fs
used_names (p ∷ ps) fs = pair_names p ++ used_names ps fs

abbrev pub call_names : Call ℕ → List Name
call_names (put who r t fs) = used_names (stored_pair r ∷ stored_pair t ∷ []) fs
call_names (seek op who p t room) = used_names (stored_pair p ∷ []) t

-- C6, R13: the names of a set are held exactly if every partition in it is
abbrev pub SetHeld : Type 0
SetHeld =
    (s : State) (who set : ℕ)
    → Iff (all (holds s who) (sets.names set) ≡ true) ((c : ℕ) → c ≤ 63 → bit set c ≡ true → holds s who (partition c) ≡ true)

-- C2: a put changes nobody's holdings, whatever it answers
abbrev pub PutGivesNothing : Type 0
PutGivesNothing =
    (ws : List ℕ) (who : ℕ) (r t : Pair ℤ) (fs : List ℕ) (p : ℕ) (n : Name)
    → holds (decode (call ws (put who r t fs)).space) p n ≡ holds (decode ws) p n

-- ---- sets of one partition

-- E1: the pair with the set of its one partition
abbrev pub only_in : {K : Type 0} → Pair K → Pair K
only_in p = pair (only p.partitions) p.key

-- the same call, with sets of one partition for the numbers of single ones
abbrev pub with_sets : {R : Type 0} → Call R → Call R
with_sets (put who r t fs) = put who (only_in r) (only_in t) fs
with_sets (seek op who p t result) = seek op who (only_in p) t result

-- N2: the call's pairs name single partitions, 0 to 63
abbrev pub NamesSingles : {R : Type 0} → Call R → Type 0
NamesSingles (put who r t fs) = (r.partitions ≤ 63) × (t.partitions ≤ 63)
NamesSingles (seek op who p t result) = p.partitions ≤ 63

-- M7: from every opening, the answers and found fields of calls with sets of one partition, on words, are those that the same rules
-- give of the calls with the numbers of single partitions, compared for equality
abbrev pub OnePartitionEach : Type 0
OnePartitionEach =
    (old roster : List ℕ) → (opening old roster).answer ≡ done → (cs : List (Call (List ℕ))) → All NamesSingles cs
    → replies (λ c. true) (opening old roster).space (map with_sets cs) ≡ state_replies singles (λ c. true) (opened roster) (map asked cs)
