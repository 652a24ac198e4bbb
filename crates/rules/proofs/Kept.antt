-- Every call, and every opening, leaves a state that the layout can hold, and 128 rows suffice for it.
use mathlib.Core.Path.{◌≡◌, refl, sym, ◌∙◌}
use mathlib.Core.Logic.{◌⊎◌, inl, inr, ◌≢◌}
use mathlib.Core.Bool.{Bool, true, false, not, ◌&&◌, cond, true≢false, false≢true}
use mathlib.Core.Option.{Option, none, some}
use mathlib.Core.List.{List, [], ◌∷◌, ◌++◌, append-nil}
use Prim.Native.Nat.{ℕ, zero, suc, ◌+◌, ◌*◌, ◌≤◌, ◌<◌, suc-le-suc}
use native.Mathlib.Omega.{arith}
use native.Mathlib.Nat.{le_refl, le_trans, le-suc, not-suc-le-zero}
use lib.Dec.{T, leb, ltb, eqb, nleb→lt, nltb→le}
use lib.IntN.{ℤ}
use lib.ListN.{length, get_or, set, drop, length-append}
use Rattle.rules.specs.Lists.{all, keep, first, without, All, In}
use Rattle.rules.specs.Names.{parties, Name, partition, key, NameInRange, key_in_range, bit, with_bit, common_names}
use Rattle.rules.specs.Partitions.{sets}
use Rattle.rules.specs.Fields.{Field, message, name, wildcard, at_least, at_most, bad, field, put_field, name_in, names_in}
use Rattle.rules.specs.Matching.{Pair, stored_pair, Entry, Op, matches}
use Rattle.rules.specs.State.{State, holds, give, give_all, give_each, everyone_holds, with_entries, wrote, live, limit_of}
use Rattle.rules.specs.Calls.{Call, put, seek, party_of, first_that_applies, bad_pair, put_table, seek_table, table}
use Rattle.rules.specs.Calls.{entry_of, removes, remaining, grants, gained, finding, serve, decided, step, opened}
use Rattle.rules.specs.Words.{holdings_ok}
use Rattle.rules.proofs.BitLaws.{eqb-true, eqb_same, bit-with}
use Rattle.rules.proofs.ListLaws.{bool, clash, and_left, and_right, or_left, or_right, not-false, passed, all_of, all-implied, All-map, All-snoc, All-without, keep_append}
use Rattle.rules.proofs.Members.{All-in, from_in}
use Rattle.rules.proofs.KeyLaws.{stored-le}
use Rattle.rules.proofs.FieldLaws.{name-words}
use Rattle.rules.proofs.Gifts.{give-entries, EightEach, give-eight, holds_same, give_kept, give_each-has}
use Rattle.rules.proofs.Openings.{listed, listed-eight, opened-entries, opened-eight}
use Rattle.rules.proofs.Rows.{PairOk, EntryOk, WF}

both : {a b : Bool} → a ≡ true → b ≡ true → (a && b) ≡ true
both p q = rw p q

t_not : {b : Bool} → b ≡ false → T (not b)
t_not e = rw e tt

leb-false : {m n : ℕ} → leb m n ≡ false → n < m
leb-false {m} {n} e = nleb→lt m n (t_not e)

ltb-false : {m n : ℕ} → ltb m n ≡ false → n ≤ m
ltb-false {m} {n} e = nltb→le m n (t_not e)

some_of : (n : ℕ) → eqb n 0 ≡ false → 1 ≤ n
some_of zero e = absurd (true≢false e)
some_of (suc n) e = omega arith

-- ---- counting a party's entries

-- one entry more, wherever it stands
pub live-amid : (p : ℕ) (l : List Entry) (e : Entry) (r : List Entry) → live p (l ++ (e ∷ r)) ≡ live p (l ++ r) + cond (wrote p e) 1 0
unfolding live
live-amid p l e r = simp (keep_append, length-append) (go (wrote p e))
  where
    go : (b : Bool) → length (keep (wrote p) l) + length (cond b (e ∷ keep (wrote p) r) (keep (wrote p) r))
        ≡ length (keep (wrote p) l) + length (keep (wrote p) r) + cond b 1 0
    go true = omega arith
    go false = omega arith

live-tail : (p : ℕ) (e : Entry) (es : List Entry) → live p es ≤ live p (e ∷ es)
unfolding live
live-tail p e es = go (wrote p e)
  where
    go : (b : Bool) → length (keep (wrote p) es) ≤ length (cond b (e ∷ keep (wrote p) es) (keep (wrote p) es))
    go true = le-suc (length (keep (wrote p) es))
    go false = le_refl (length (keep (wrote p) es))

live-cons : (p : ℕ) (e : Entry) (fs es : List Entry) → live p fs ≤ live p es → live p (e ∷ fs) ≤ live p (e ∷ es)
unfolding live
live-cons p e fs es h = go (wrote p e)
  where
    go : (b : Bool) → length (cond b (e ∷ keep (wrote p) fs) (keep (wrote p) fs)) ≤ length (cond b (e ∷ keep (wrote p) es) (keep (wrote p) es))
    go true = suc-le-suc h
    go false = h

live-without : (p : ℕ) (m : Entry → Bool) (es : List Entry) → live p (without m es) ≤ live p es
live-without p m [] = le_refl (live p [])
live-without p m (e ∷ es) = go (m e) (live-without p m es)
  where
    go : (b : Bool) → live p (without m es) ≤ live p es → live p (cond b es (e ∷ without m es)) ≤ live p (e ∷ es)
    go true h = live-tail p e es
    go false h = live-cons p e (without m es) es h

live-keep : (p : ℕ) (q : Entry → Bool) (es : List Entry) → live p (keep q es) ≤ live p es
live-keep p q [] = le_refl (live p [])
live-keep p q (e ∷ es) = go (q e) (live-keep p q es)
  where
    go : (b : Bool) → live p (keep q es) ≤ live p es → live p (cond b (e ∷ keep q es) (keep q es)) ≤ live p (e ∷ es)
    go true h = live-cons p e (keep q es) es h
    go false h = le_trans h (live-tail p e es)

-- ---- names in range

All-append : {A : Type 0} (P : A → Type 0) (l r : List A) → All P l → All P r → All P (l ++ r)
All-append P [] r h k = k
All-append P (x ∷ l) r h k = (h.0, All-append P l r h.1 k)

field-ok : (w : ℕ) (f : Field) → field w ≡ f → All NameInRange (name_in f)
field-ok w (message v) e = tt
field-ok w (name n) e = (((name-words w n).0 e).1, tt)
field-ok w wildcard e = tt
field-ok w (at_least v) e = tt
field-ok w (at_most v) e = tt
field-ok w bad e = tt

pub names_in-ok : (ws : List ℕ) → All NameInRange (names_in ws)
names_in-ok [] = tt
names_in-ok (w ∷ ws) = All-append NameInRange (name_in (field w)) (names_in ws) (field-ok w (field w) refl) (names_in-ok ws)

-- what holds of all names in an entry's fields holds of those that an operation gains
pub All-gained : (P : Name → Type 0) (op : Op) (e : Entry) → All P (names_in e.fields) → All P (gained op e)
All-gained P op e h = go (grants op)
  where
    go : (b : Bool) → All P (cond b (names_in e.fields) [])
    go true = h
    go false = tt

-- ---- holdings

all_set : (f : ℕ → Bool) (u : ℕ → ℕ) → ((w : ℕ) → f w ≡ true → f (u w) ≡ true)
    → (l : List ℕ) (who : ℕ) → all f l ≡ true → all f (set l who (u (get_or l who 0))) ≡ true
all_set f u h [] who e = refl
all_set f u h (w ∷ l) zero e = rw (h w (and_left (f w) (all f l) e)) (and_right (f w) (all f l) e)
all_set f u h (w ∷ l) (suc who) e = rw (and_left (f w) (all f l) e) (all_set f u h l who (and_right (f w) (all f l) e))

clear63 : (w k : ℕ) → k ≤ 62 → not (bit w 63) ≡ true → not (bit (with_bit w k) 63) ≡ true
clear63 w k l h = go (bool (bit (with_bit w k) 63))
  where
    never : (bit w 63 ≡ true) ⊎ (k ≡ 63) → ⊥
    never (inl e) = absurd (false≢true (rw e at h))
    never (inr e) = omega arith

    go : (bit (with_bit w k) 63 ≡ true) ⊎ (bit (with_bit w k) 63 ≡ false) → not (bit (with_bit w k) 63) ≡ true
    go (inl e) = absurd (never (bit-with w k 63 e))
    go (inr e) = rw e refl

-- bit 63 of each key word is clear
abbrev Clear63 : State → Type 0
Clear63 s = all (λ w. not (bit w 63)) s.keys ≡ true

give-clear : (who : ℕ) (n : Name) (s : State) → NameInRange n → Clear63 s → Clear63 (give who n s)
unfolding give
give-clear who (partition c) s o h = h
give-clear who (key k) s o h = all_set (λ w. not (bit w 63)) (λ w. with_bit w k) (λ w e. clear63 w k o e) s.keys who h

give_all-clear : (who : ℕ) (ns : List Name) (s : State) → All NameInRange ns → Clear63 s → Clear63 (give_all who ns s)
give_all-clear who [] s o h = h
give_all-clear who (n ∷ ns) s o h = give_all-clear who ns (give who n s) o.1 (give-clear who n s o.0 h)

give_each-clear : (whos : List ℕ) (ns : List Name) (s : State) → All NameInRange ns → Clear63 s → Clear63 (give_each whos ns s)
give_each-clear [] ns s o h = h
give_each-clear (who ∷ whos) ns s o h = give_each-clear whos ns (give_all who ns s) o (give_all-clear who ns s o h)

-- ---- opening

pub everyone-given : (ns : List Name) (s : State) → EightEach s → everyone_holds ns (give_each parties ns s) ≡ true
everyone-given ns s h =
    all_of (λ who. all (holds (give_each parties ns s) who) ns) parties
    (All-in (λ who. all (holds (give_each parties ns s) who) ns ≡ true) parties (λ who i. all_of (holds (give_each parties ns s) who) ns (each who i)))
  where
    each : (who : ℕ) → In who parties → All (λ n. holds (give_each parties ns s) who n ≡ true) ns
    each who i = All-in (λ n. holds (give_each parties ns s) who n ≡ true) ns (λ n j. give_each-has parties who ns n s i (from_in who 0 8 i) h j)

pub wf-opened : (roster : List ℕ) → length roster ≡ 16 → all (λ w. not (bit w 63)) (drop 8 roster) ≡ true → WF (opened roster)
unfolding opened live
wf-opened roster l h =
    let eight : EightEach (opened roster) = opened-eight roster l in
    record {
      partitions_len = eight.0;
      keys_len = eight.1;
      holdings = both (everyone-given common_names (listed roster) (listed-eight roster l)) clear;
      rows = rw (opened-entries roster) tt;
      limits = λ p. rw (opened-entries roster) (omega arith);
    }
  where
    clear : Clear63 (opened roster)
    clear = give_each-clear parties common_names (listed roster) (omega arith, tt) h

-- ---- gifts

-- what everyone holds, everyone holds in a state that takes nothing away
pub everyone-keeps : (ns : List Name) (s s' : State) → ((p : ℕ) (m : Name) → holds s p m ≡ true → holds s' p m ≡ true)
    → everyone_holds ns s ≡ true → everyone_holds ns s' ≡ true
everyone-keeps ns s s' h =
    all-implied (λ who. all (holds s who) ns) (λ who. all (holds s' who) ns) (λ who. all-implied (holds s who) (holds s' who) (h who) ns) parties

holdings-keep : (s s' : State) → ((p : ℕ) (m : Name) → holds s p m ≡ true → holds s' p m ≡ true) → (Clear63 s → Clear63 s')
    → holdings_ok s ≡ true → holdings_ok s' ≡ true
holdings-keep s s' k c h =
    let common : Bool = everyone_holds common_names s in
    let clear : Bool = all (λ w. not (bit w 63)) s.keys in
    both (everyone-keeps common_names s s' k (and_left common clear h)) (c (and_right common clear h))

wf-give : (who : ℕ) (n : Name) (s : State) → NameInRange n → WF s → WF (give who n s)
wf-give who n s o h =
    let eight : EightEach (give who n s) = give-eight who n s (h.partitions_len, h.keys_len) in
    record {
      partitions_len = eight.0;
      keys_len = eight.1;
      holdings = holdings-keep s (give who n s) (λ p m. give_kept who p n m s) (give-clear who n s o) h.holdings;
      rows = rw (give-entries who n s) h.rows;
      limits = rw (give-entries who n s) h.limits;
    }

pub wf-give_all : (who : ℕ) (ns : List Name) (s : State) → All NameInRange ns → WF s → WF (give_all who ns s)
wf-give_all who [] s o h = h
wf-give_all who (n ∷ ns) s o h = wf-give_all who ns (give who n s) o.1 (wf-give who n s o.0 h)

pub wf-with : (es : List Entry) (s : State) → WF s → All EntryOk es → ((p : ℕ) → live p es ≤ limit_of (with_entries es s) p) → WF (with_entries es s)
wf-with es s h r l =
    record {
      partitions_len = h.partitions_len;
      keys_len = h.keys_len;
      holdings = holdings-keep s (with_entries es s) (λ p m e. sym (holds_same p s (with_entries es s) (refl, refl) m) ∙ e) (λ c. c) h.holdings;
      rows = r;
      limits = l;
    }

-- ---- the calls

pub pair_ok : (p : Pair ℤ) → bad_pair sets p ≡ false → PairOk (stored_pair p)
pair_ok p h =
    record {
      partitions_ok = not-false (sets.in_range p.partitions) (or_left (not (sets.in_range p.partitions)) (not (key_in_range p.key)) h);
      key_ok = stored-le p.key (not-false (key_in_range p.key) (or_right (not (sets.in_range p.partitions)) (not (key_in_range p.key)) h));
    }

-- the entry of a put that no test turns away fits a row, and its writer has room for it
pub entry-ok : (s : State) (who : ℕ) (r t : Pair ℤ) (fs : List ℕ) → first_that_applies (put_table sets s who r t fs) ≡ none
    → EntryOk (entry_of who r t fs) × (live who s.entries < limit_of s who)
unfolding put_table
entry-ok s who r t fs h =
    let q : All (λ t. t.0 ≡ false) (put_table sets s who r t fs) = passed (put_table sets s who r t fs) h in (
      record {
        writer_ok = ltb-false q.0;
        read_ok = pair_ok r (or_left (bad_pair sets r) (bad_pair sets t) q.1.1.0);
        take_ok = pair_ok t (or_right (bad_pair sets r) (bad_pair sets t) q.1.1.0);
        some = some_of (length fs) (or_left (eqb (length fs) 0) (ltb 8 (length fs)) q.1.0);
        few = ltb-false (or_right (eqb (length fs) 0) (ltb 8 (length fs)) q.1.0);
        fields_ok = not-false (all put_field fs) q.1.1.1.0;
      },
      leb-false q.1.1.1.1.1.1.1.0,
    )

remaining-ok : (op : Op) (m : Entry → Bool) (es : List Entry) → All EntryOk es → All EntryOk (remaining op m es)
remaining-ok op m es h = go (removes op)
  where
    go : (b : Bool) → All EntryOk (cond b (without m es) es)
    go true = All-without EntryOk m es h
    go false = h

remaining-live : (op : Op) (m : Entry → Bool) (es : List Entry) (p : ℕ) → live p (remaining op m es) ≤ live p es
remaining-live op m es p = go (removes op)
  where
    go : (b : Bool) → live p (cond b (without m es) es) ≤ live p es
    go true = live-without p m es
    go false = le_refl (live p es)

pub wf-remaining : (op : Op) (m : Entry → Bool) (s : State) → WF s → WF (with_entries (remaining op m s.entries) s)
wf-remaining op m s h =
    wf-with (remaining op m s.entries) s h (remaining-ok op m s.entries h.rows) (λ q. le_trans (remaining-live op m s.entries q) (h.limits q))

-- the party of a call that no test turns away
pub party-ok : (s : State) (c : Call ℕ) → first_that_applies (table sets s c) ≡ none → party_of c < 8
unfolding put_table seek_table
party-ok s (put who r t fs) h = suc-le-suc (ltb-false (passed (put_table sets s who r t fs) h).0)
party-ok s (seek op who p t room) h = suc-le-suc (ltb-false (passed (seek_table sets s who p t room) h).0)

-- a call that no test turns away
pub wf-serve : (s : State) (c : Call ℕ) → WF s → first_that_applies (table sets s c) ≡ none → WF (serve sets s c).state
wf-serve s (put who r t fs) h q =
    let o = entry-ok s who r t fs q in
    wf-with (s.entries ++ (e ∷ [])) s h (All-snoc EntryOk s.entries e h.rows o.0) (room o.1)
  where
    e : Entry
    e = entry_of who r t fs

    room : live who s.entries < limit_of s who → (p : ℕ) → live p (s.entries ++ (e ∷ [])) ≤ limit_of s p
    room l p = rw (live-amid p s.entries e [], append-nil s.entries) (go (bool (eqb who p)))
      where
        go : (eqb who p ≡ true) ⊎ (eqb who p ≡ false) → live p s.entries + cond (eqb who p) 1 0 ≤ limit_of s p
        go (inl q) = rw (q, ← (eqb-true who p q)) (omega arith)
        go (inr q) = rw q (omega (arith, h.limits p))
wf-serve s (seek op who p t room) h q = go (first m s.entries)
  where
    m : Entry → Bool
    m = matches sets op (stored_pair p) t

    es : List Entry
    es = remaining op m s.entries

    go : (o : Option Entry) → WF (finding op who o es s).state
    go none = h
    go (some x) =
        wf-give_all who (gained op x) (with_entries es s) (All-gained NameInRange op x (names_in-ok x.fields)) (wf-remaining op m s h)

pub wf-step : (s : State) (c : Call ℕ) → WF s → WF (step sets s c).state
unfolding step
wf-step s c h = go (first_that_applies (table sets s c)) refl
  where
    go : (o : Option ℕ) → first_that_applies (table sets s c) ≡ o → WF (decided o (serve sets s c) s).state
    go (some n) q = h
    go none q = wf-serve s c h q

-- ---- the 128 rows suffice

abbrev others : ℕ → Entry → Bool
others k e = not (wrote k e)

split-len : (k : ℕ) (es : List Entry) → length es ≡ live k es + length (keep (others k) es)
unfolding live
split-len k [] = refl
split-len k (e ∷ es) = go (wrote k e) (split-len k es)
  where
    go : (b : Bool) → length es ≡ length (keep (wrote k) es) + length (keep (others k) es)
        → suc (length es) ≡ length (cond b (e ∷ keep (wrote k) es) (keep (wrote k) es)) + length (cond (not b) (e ∷ keep (others k) es) (keep (others k) es))
    go true h = omega arith
    go false h = omega arith

below : (k : ℕ) (es : List Entry) → All (λ e. e.writer < suc k) es → All (λ e. e.writer < k) (keep (others k) es)
below k [] h = tt
below k (e ∷ es) h = go (bool (wrote k e)) (below k es h.1)
  where
    lt_of : (w : ℕ) → w < suc k → eqb w k ≡ false → w < k
    lt_of w a b = let n : w ≢ k = λ q. clash (eqb w k) (rw q (eqb_same k)) b in omega arith

    go : (wrote k e ≡ true) ⊎ (wrote k e ≡ false) → All (λ e. e.writer < k) (keep (others k) es)
        → All (λ e. e.writer < k) (keep (others k) (e ∷ es))
    go (inl t) r = rw t r
    go (inr t) r = rw t (lt_of e.writer h.0 t, r)

count : (k : ℕ) (es : List Entry) → All (λ e. e.writer < k) es → ((p : ℕ) → live p es ≤ 16) → length es ≤ 16 * k
count zero [] h l = le_refl 0
count zero (e ∷ es) h l = absurd (not-suc-le-zero h.0)
count (suc k) es h l =
    let r : length (keep (others k) es) ≤ 16 * k = count k (keep (others k) es) (below k es h) (λ p. le_trans (live-keep p (others k) es) (l p)) in
    let a : live k es ≤ 16 = l k in
    let b : length es ≡ live k es + length (keep (others k) es) = split-len k es in
    omega arith

pub few-rows : (s : State) → WF s → length s.entries ≤ 128
few-rows s h = count 8 s.entries (All-map EntryOk (λ e. e.writer < 8) (λ e o. suc-le-suc o.writer_ok) s.entries h.rows) h.limits
