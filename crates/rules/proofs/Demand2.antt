-- Demand 2: the matching rule, what a search answers, when there is room, and which entries are live.
use mathlib.Core.Path.{◌≡◌, refl, sym, ap, ◌∙◌}
use mathlib.Core.Logic.{◌⊎◌, inl, inr}
use mathlib.Core.Bool.{Bool, true, false, cond, true≢false}
use mathlib.Core.Option.{Option, none, some}
use mathlib.Core.List.{List, [], ◌∷◌, ◌++◌, map, map-append}
use Prim.Native.Nat.{ℕ, zero, suc, ◌+◌, ◌≤◌, ◌<◌, suc-le-suc}
use native.Mathlib.Omega.{arith}
use native.Mathlib.Nat.{not-suc-le-zero, le_of_suc-le-suc, zero-lt-suc}
use borrow.Author.Tests.{leb-true, le-ltb, ne_eqb}
use lib.Dec.{leb, eqb}
use lib.IntN.{ℤ}
use lib.ListN.{length, get_or, drop, length-append}
use Rattle.rules.specs.Lists.{keep, first, without, All}
use Rattle.rules.specs.Names.{co_stored}
use Rattle.rules.specs.Partitions.{sets}
use Rattle.rules.specs.Fields.{wildcard, field, is_bound, field_agrees}
use Rattle.rules.specs.Matching.{Pair, stored_pair, Entry, Op, looking, receiving, taking, pair_for, fields_agree, keys_agree, matches}
use Rattle.rules.specs.State.{State, give_all, with_entries, wrote, live, limit_of}
use Rattle.rules.specs.Calls.{Call, put, seek, done, found, nothing, refused}
use Rattle.rules.specs.Calls.{first_that_applies, put_table, entry_of, remaining, gained, finding, serve, opened}
use Rattle.rules.specs.Words.{decode, asked, call, refusals, opening}
use Rattle.rules.specs.Runs.{run, Line, untaken, strike, recorded, ledger}
use Rattle.rules.specs.Claims.{Iff, Passes, Matches, MatchingRule, MatchingWithoutBounds, StoredCoKey, NoneExactlyWhenNothingMatches}
use Rattle.rules.specs.Claims.{FoundIsOldestMatch, TakeRemoves, ReceiveRemovesNothing, NoRoomExactlyAtSixteen, RowsSuffice, LiveAreThePutsNotTaken}
use Rattle.rules.proofs.BitLaws.{eqb-true, eqb_same}
use Rattle.rules.proofs.ListLaws.{bool, and_left, and_right, All-at, without-split, keep_append}
use Rattle.rules.proofs.SetLaws.{sets-agree}
use Rattle.rules.proofs.KeyLaws.{stored-le, co-stored}
use Rattle.rules.proofs.Rows.{WF}
use Rattle.rules.proofs.Kept.{live-amid, wf-serve, few-rows}
use Rattle.rules.proofs.Back.{each, wf-decode}
use Rattle.rules.proofs.FieldLaws.{without-bound}
use Rattle.rules.proofs.Gifts.{give_all-entries}
use Rattle.rules.proofs.Openings.{opened-entries}
use Rattle.rules.proofs.WordRuns.{back, Opened, open_done}
use Rattle.rules.proofs.Decided.{call_by, call-by, passes-table, passes-call, passes-left, call-leaves}

-- ---- the matching rule

agree-each : (t fs : List ℕ) → fields_agree t fs ≡ true → (i : ℕ) → i < length t → field_agrees (get_or t i 0) (get_or fs i 0) ≡ true
agree-each [] fs h i l = absurd (not-suc-le-zero l)
agree-each (x ∷ t) [] h i l = absurd (true≢false (sym h))
agree-each (x ∷ t) (f ∷ fs) h zero l = and_left (field_agrees x f) (fields_agree t fs) h
agree-each (x ∷ t) (f ∷ fs) h (suc i) l = agree-each t fs (and_right (field_agrees x f) (fields_agree t fs) h) i (le_of_suc-le-suc l)

each-agrees : (t fs : List ℕ) → length t ≡ length fs → ((i : ℕ) → i < length t → field_agrees (get_or t i 0) (get_or fs i 0) ≡ true)
    → fields_agree t fs ≡ true
each-agrees [] fs e h = refl
each-agrees (x ∷ t) [] e h = absurd (omega arith)
each-agrees (x ∷ t) (f ∷ fs) e h = rw (h 0 (zero-lt-suc (length t))) (each-agrees t fs (omega arith) (λ i l. h (suc i) (suc-le-suc l)))

eqb_of : {m n : ℕ} → m ≡ n → eqb m n ≡ true
eqb_of {m} {n} e = rw e (eqb_same n)

pub matching-rule : MatchingRule
unfolding matches
matching-rule op p t e = (there, back-again)
  where
    q : Pair ℕ
    q = pair_for op e

    there : matches sets op p t e ≡ true → Matches (λ t f. field_agrees t f ≡ true) op p t e
    there h =
        let v =
        each (eqb (length t) (length e.fields))
        (fields_agree t e.fields ∷ sets.agree p.partitions q.partitions ∷ keys_agree p.key q.key ∷ []) h in
        record {
          counts = eqb-true (length t) (length e.fields) v.0;
          fields = agree-each t e.fields v.1.0;
          partitions = (sets-agree p.partitions q.partitions).0 v.1.1.0;
          keys = eqb-true (co_stored q.key) p.key v.1.1.1.0;
        }

    back-again : Matches (λ t f. field_agrees t f ≡ true) op p t e → matches sets op p t e ≡ true
    back-again h =
        rw (eqb_of h.counts, each-agrees t e.fields h.counts h.fields, (sets-agree p.partitions q.partitions).1 h.partitions, eqb_of h.keys) refl

pub matching-without-bounds : MatchingWithoutBounds
matching-without-bounds op p t e plain =
    (λ h. fieldwise (λ i l. (at i l).0) ((matching-rule op p t e).0 h), λ m. (matching-rule op p t e).1 (fieldwise (λ i l. (at i l).1) m))
  where
    at : (i : ℕ) → i < length t
        → Iff (field_agrees (get_or t i 0) (get_or e.fields i 0) ≡ true) ((field (get_or t i 0) ≡ wildcard) ⊎ (get_or t i 0 ≡ get_or e.fields i 0))
    at i l = without-bound (get_or t i 0) (get_or e.fields i 0) (All-at (λ w. is_bound (field w) ≡ false) t plain i l)

    fieldwise : {A B : ℕ → ℕ → Type 0}
        → ((i : ℕ) → i < length t → A (get_or t i 0) (get_or e.fields i 0) → B (get_or t i 0) (get_or e.fields i 0))
        → Matches A op p t e → Matches B op p t e
    fieldwise f m =
        record { counts = m.counts; fields = λ i l. f i l (m.fields i l); partitions = m.partitions; keys = m.keys }

pub stored-co-key : StoredCoKey
stored-co-key k h = (co-stored k h, stored-le k h)

-- ---- what a search answers

first-missed : (m : Entry → Bool) (es : List Entry) → first m es ≡ none → All (λ e. m e ≡ false) es
first-missed m [] h = tt
first-missed m (e ∷ es) h = go (bool (m e)) (first-missed m es)
  where
    go : (m e ≡ true) ⊎ (m e ≡ false) → (first m es ≡ none → All (λ e. m e ≡ false) es) → (m e ≡ false) × All (λ e. m e ≡ false) es
    go (inl t) r = let h' : some e ≡ none = rw t at h in let z : ◌≡◌ {A = ℕ} 0 1 = cc in absurd (omega arith)
    go (inr t) r = (t, r (rw t at h))

missed_first : (m : Entry → Bool) (es : List Entry) → All (λ e. m e ≡ false) es → first m es ≡ none
missed_first m [] h = refl
missed_first m (e ∷ es) h = rw h.0 (missed_first m es h.1)

-- what comes before the first match, the match, and what follows it
record Split (m : Entry → Bool) (es : List Entry) (x : Entry) : Type 0 where
  older : List Entry
  newer : List Entry
  place : es ≡ older ++ (x ∷ newer)
  no_older : All (λ e. m e ≡ false) older
  match : m x ≡ true

first-split : (m : Entry → Bool) (es : List Entry) (x : Entry) → first m es ≡ some x → Split m es x
first-split m [] x h = let z : ◌≡◌ {A = ℕ} 0 1 = cc in absurd (omega arith)
first-split m (e ∷ es) x h = go (bool (m e)) (first-split m es x)
  where
    go : (m e ≡ true) ⊎ (m e ≡ false) → (first m es ≡ some x → Split m es x) → Split m (e ∷ es) x
    go (inl t) r =
        let h' : some e ≡ some x = rw t at h in
        let q : e ≡ x = cc in
        record { older = []; newer = es; place = rw q refl; no_older = tt; match = rw (← q) t }
    go (inr t) r =
        let s : Split m es x = r (rw t at h) in
        record { older = e ∷ s.older; newer = s.newer; place = ap (λ l. e ∷ l) s.place; no_older = (t, s.no_older); match = s.match }

pub none-exactly-when-nothing-matches : NoneExactlyWhenNothingMatches
none-exactly-when-nothing-matches ws op who p t result e =
    rw (passes-call ws (seek op who p t result) e) (λ h. first-missed m es (there (first m es) h), λ a. rw (missed_first m es a) refl)
  where
    m : Entry → Bool
    m = matches sets op (stored_pair p) t

    es : List Entry
    es = (decode ws).entries

    there : (o : Option Entry) → (finding op who o (remaining op m es) (decode ws)).answer ≡ nothing → o ≡ none
    there none h = refl
    there (some x) h = let z : ◌≡◌ {A = ℕ} 0 1 = cc in absurd (omega arith)

-- what a look, receive or take found, wrote and left
pub record Found (ws : List ℕ) (op : Op) (who : ℕ) (p : Pair ℤ) (t result : List ℕ) (n : ℕ) : Type 0 where
  pub passes : Passes ws (seek op who p t result)
  pub entry : Entry
  pub oldest : first (matches sets op (stored_pair p) t) (decode ws).entries ≡ some entry
  pub count : n ≡ length entry.fields
  pub written : (call ws (seek op who p t result)).result ≡ entry.fields ++ drop n result
  pub left : decode (call ws (seek op who p t result)).space
      ≡ give_all who (gained op entry) (with_entries (remaining op (matches sets op (stored_pair p) t) (decode ws).entries) (decode ws))

pub found-by : (ws : List ℕ) (op : Op) (who : ℕ) (p : Pair ℤ) (t result : List ℕ) (n : ℕ)
    → (call ws (seek op who p t result)).answer ≡ found n → Found ws op who p t result n
found-by ws op who p t result n a = go (first_that_applies (refusals ws c)) refl
  where
    c : Call (List ℕ)
    c = seek op who p t result

    m : Entry → Bool
    m = matches sets op (stored_pair p) t

    search : Passes ws c → (o : Option Entry) → first m (decode ws).entries ≡ o → Found ws op who p t result n
    search e none q =
        let x : (call ws c).answer ≡ nothing = rw (passes-call ws c e, q) refl in
        let z : ◌≡◌ {A = ℕ} 0 1 = cc in absurd (omega arith)
    search e (some y) q =
        let x : (call ws c).answer ≡ found (length y.fields) = rw (passes-call ws c e, q) refl in
        let k : n ≡ length y.fields = cc in
        record {
          passes = e;
          entry = y;
          oldest = q;
          count = k;
          written = rw (k, passes-call ws c e, q) refl;
          left = passes-left ws c e ∙ rw q refl;
        }

    go : (o : Option ℕ) → first_that_applies (refusals ws c) ≡ o → Found ws op who p t result n
    go (some k) e =
        let x : (call ws c).answer ≡ refused k = rw (call-by ws c, e) refl in
        let z : ◌≡◌ {A = ℕ} 0 1 = cc in absurd (omega arith)
    go none e = search e (first m (decode ws).entries) refl

pub found-is-oldest-match : FoundIsOldestMatch
found-is-oldest-match ws op who p t result n a =
    let f : Found ws op who p t result n = found-by ws op who p t result n a in
    let s : Split (matches sets op (stored_pair p) t) (decode ws).entries f.entry = first-split _ _ _ f.oldest in
    record {
      older = s.older;
      entry = f.entry;
      newer = s.newer;
      place = s.place;
      no_older = s.no_older;
      match = s.match;
      count = f.count;
      written = f.written;
    }

-- ---- what a search leaves

pub take-removes : TakeRemoves
take-removes ws who p t result n a m =
    record {
      rest = rest;
      writer = rw (m.place, rest) (charge w ∙ rw (eqb_same w) (omega arith));
      others = λ q ne. rw (m.place, rest) (sym (charge q ∙ rw (ne_eqb w q (λ e. ne (sym e))) (omega arith)));
    }
  where
    w : ℕ
    w = m.entry.writer

    charge : (q : ℕ) → live q (m.older ++ (m.entry ∷ m.newer)) ≡ live q (m.older ++ m.newer) + cond (wrote q m.entry) 1 0
    charge q = live-amid q m.older m.entry m.newer

    f : Found ws taking who p t result n
    f = found-by ws taking who p t result n a

    rest : (decode (call ws (seek taking who p t result)).space).entries ≡ m.older ++ m.newer
    rest = ap (λ s. s.entries) f.left ∙ give_all-entries who (gained taking f.entry) _
        ∙ rw m.place (without-split _ m.older m.entry m.newer m.no_older m.match)

-- an operation that removes nothing leaves the entries
kept-entries : (op : Op) → ((m : Entry → Bool) (es : List Entry) → remaining op m es ≡ es)
    → (s : State) (who : ℕ) (p : Pair ℤ) (t : List ℕ) (room : ℕ) → (serve sets s (seek op who p t room)).state.entries ≡ s.entries
kept-entries op keeps s who p t room = go (first m s.entries)
  where
    m : Entry → Bool
    m = matches sets op (stored_pair p) t

    go : (o : Option Entry) → (finding op who o (remaining op m s.entries) s).state.entries ≡ s.entries
    go none = refl
    go (some x) = give_all-entries who (gained op x) (with_entries (remaining op m s.entries) s) ∙ keeps m s.entries

pub receive-removes-nothing : ReceiveRemovesNothing
receive-removes-nothing ws who p t result =
    call-leaves (λ s. s.entries ≡ (decode ws).entries) ws (seek receiving who p t result) refl
    (λ e. kept-entries receiving (λ m es. refl) (decode ws) who p t (length result))

-- ---- room

pub no-room-exactly-at-sixteen : NoRoomExactlyAtSixteen
unfolding put_table
no-room-exactly-at-sixteen ws who r t fs h = rw (call-by ws c, eighth) (there (bool full), λ e. rw e refl)
  where
    c : Call (List ℕ)
    c = put who r t fs

    n : ℕ
    n = live who (decode ws).entries

    full : Bool
    full = leb (limit_of (decode ws) who) n

    eighth : first_that_applies (refusals ws c) ≡ cond full (some 8) none
    eighth = rw (h.one, le-ltb 7 who h.two, h.three, h.four_read, h.four_take, h.five, h.thirteen, h.fourteen, h.seven) refl

    there : (full ≡ true) ⊎ (full ≡ false) → (call_by (cond full (some 8) none) ws c).answer ≡ refused 8 → n ≡ 16
    there (inl b) a =
        let l : 16 ≤ n = leb-true 16 n b in
        let u : n ≤ 16 = (wf-decode ws h.one).limits who in
        omega arith
    there (inr b) a =
        let d : done ≡ refused 8 = rw b at a in
        let z : ◌≡◌ {A = ℕ} 0 1 = cc in absurd (omega arith)

pub rows-suffice : RowsSuffice
rows-suffice ws h = (few-rows s w, more)
  where
    s : State
    s = decode ws

    w : WF s
    w = wf-decode ws h

    more : (who : ℕ) (r t : Pair ℤ) (fs : List ℕ) → Passes ws (put who r t fs) → length (decode ws).entries < 128
    more who r t fs e =
        let c : Call ℕ = put who r t fs in
        let k : length (serve sets s c).state.entries ≤ 128 = few-rows (serve sets s c).state (wf-serve s c w (passes-table ws (put who r t fs) e)) in
        omega (arith, length-append s.entries (entry_of who r t fs ∷ []))

-- ---- the live entries are those of the ledger's lines that are not taken

abbrev entries_of : List Line → List Entry
entries_of ls = map (λ l. l.entry) (keep untaken ls)

entries-snoc : (ls : List Line) (e : Entry) → entries_of (ls ++ (record { entry = e; taken = false } ∷ [])) ≡ entries_of ls ++ (e ∷ [])
entries-snoc ls e =
    let l : Line = record { entry = e; taken = false } in
    rw (keep_append untaken ls (l ∷ [])) (map-append (λ l. l.entry) (keep untaken ls) (l ∷ []))

entries-strike : (m : Entry → Bool) (ls : List Line) → entries_of (strike m ls) ≡ without m (entries_of ls)
entries-strike m [] = refl
entries-strike m (l ∷ ls) = go (bool l.taken) (bool (m l.entry)) (entries-strike m ls)
  where
    go : (l.taken ≡ true) ⊎ (l.taken ≡ false) → (m l.entry ≡ true) ⊎ (m l.entry ≡ false) → entries_of (strike m ls) ≡ without m (entries_of ls)
        → entries_of (strike m (l ∷ ls)) ≡ without m (entries_of (l ∷ ls))
    go (inl t) k r = rw t r
    go (inr t) (inl k) r = rw (t, k) refl
    go (inr t) (inr k) r = rw (t, k) (ap (λ es. l.entry ∷ es) r)

recorded-refused : (c : Call (List ℕ)) (n : ℕ) (ls : List Line) → recorded c (refused n) ls ≡ ls
recorded-refused (put who r t fs) n ls = refl
recorded-refused (seek looking who p t result) n ls = refl
recorded-refused (seek receiving who p t result) n ls = refl
recorded-refused (seek taking who p t result) n ls = refl

serve-recorded : (s : State) (c : Call (List ℕ)) (ls : List Line) → s.entries ≡ entries_of ls
    → (serve sets s (asked c)).state.entries ≡ entries_of (recorded c (serve sets s (asked c)).answer ls)
serve-recorded s (put who r t fs) ls e = rw e (sym (entries-snoc ls (entry_of who r t fs)))
serve-recorded s (seek looking who p t result) ls e = kept-entries looking (λ m es. refl) s who p t (length result) ∙ e
serve-recorded s (seek receiving who p t result) ls e = kept-entries receiving (λ m es. refl) s who p t (length result) ∙ e
serve-recorded s (seek taking who p t result) ls e = go (first m s.entries)
  where
    m : Entry → Bool
    m = matches sets taking (stored_pair p) t

    go : (o : Option Entry) → (finding taking who o (without m s.entries) s).state.entries
        ≡ entries_of (recorded (seek taking who p t result) (finding taking who o (without m s.entries) s).answer ls)
    go none = e
    go (some x) = give_all-entries who (gained taking x) (with_entries (without m s.entries) s) ∙ ap (without m) e ∙ sym (entries-strike m ls)

call-recorded : (ws : List ℕ) (c : Call (List ℕ)) (ls : List Line) → (decode ws).entries ≡ entries_of ls
    → (decode (call ws c).space).entries ≡ entries_of (recorded c (call ws c).answer ls)
call-recorded ws c ls e = go (first_that_applies (refusals ws c)) refl
  where
    go : (o : Option ℕ) → first_that_applies (refusals ws c) ≡ o
        → (decode (call ws c).space).entries ≡ entries_of (recorded c (call ws c).answer ls)
    go (some n) q = rw (call-by ws c, q) (rw (recorded-refused c n ls) e)
    go none q = rw (passes-left ws c q, passes-call ws c q) (serve-recorded (decode ws) c ls e)

run-recorded : (cs : List (Call (List ℕ))) (ws : List ℕ) (ls : List Line) → (decode ws).entries ≡ entries_of ls
    → (decode (run ws cs)).entries ≡ entries_of (ledger ws cs ls)
run-recorded [] ws ls e = e
run-recorded (c ∷ cs) ws ls e = run-recorded cs (call ws c).space (recorded c (call ws c).answer ls) (call-recorded ws c ls e)

pub live-are-the-puts-not-taken : LiveAreThePutsNotTaken
live-are-the-puts-not-taken old roster d cs who =
    let o : Opened (opening old roster) roster = open_done old roster d in
    ap (keep (wrote who)) (run-recorded cs (opening old roster).space [] (rw (o.words, back (opened roster) o.wf) (opened-entries roster)))
