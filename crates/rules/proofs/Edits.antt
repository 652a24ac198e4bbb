-- What the calls do to the words, for the proofs of code: a gained name, a put and a take as edits of the space's words, and
-- the search as one over rows.
use mathlib.Core.Path.{◌≡◌, refl, sym, ap, ◌∙◌, subst}
use mathlib.Core.Bool.{Bool, true, false}
use mathlib.Core.Option.{none, some}
use mathlib.Core.List.{List, [], ◌∷◌, ◌++◌, append_assoc, append-nil}
use Prim.Native.Nat.{ℕ, zero, suc, ◌+◌, ◌-◌, ◌*◌, ◌≤◌, ◌<◌, suc-le-suc}
use native.Mathlib.Omega.{arith}
use native.Mathlib.Nat.{not-suc-le-zero, le_of_suc-le-suc, zero-lt-suc}
use native.Mathlib.Numerals.{add-one}
use lib.ListN.{length, get_or, set, take, drop, length-append, take-append-drop, length-take, get_or-append, replicate-append-replicate}
use lib.Seq.{drop-drop, set-append_left, get_or-append-add, take_at, drop_at}
use Rattle.rules.specs.Lists.{first, without, All}
use Rattle.rules.specs.Names.{partition, key, with_bit}
use Rattle.rules.specs.Matching.{Entry}
use Rattle.rules.specs.State.{State, give, with_entries}
use Rattle.rules.specs.Words.{zeros, row_of, rows_of, encode, entry_at, entries_at, decode, sound}
use Rattle.rules.proofs.Rows.{EntryOk, WF, rows-len, row-rest, length-zeros}
use Rattle.rules.proofs.Back.{sound-facts, wf-decode, encode-decode, decode-len}

-- ---- a gained name is a store of one word

set_append_right : (l r : List ℕ) (i : ℕ) (x : ℕ) → set (l ++ r) (length l + i) x ≡ l ++ set r i x
set_append_right [] r i x = ap (λ (j : ℕ). set r j x) (omega arith)
set_append_right (a ∷ l) r i x =
    let e : suc (length l) + i ≡ suc (length l + i) = omega arith in
    ap (λ (j : ℕ). set (a ∷ (l ++ r)) j x) e ∙ ap (λ (t : List ℕ). a ∷ t) (set_append_right l r i x)

module _ (s : State) (who c : ℕ) (h : WF s) (l : who < 8) where
  pub give-partition-words : encode (give who (partition c) s) ≡ set (encode s) (1 + who) (with_bit (get_or (encode s) (1 + who) 0) c)
  unfolding encode give
  give-partition-words =
      let k : who < length s.partitions = omega (arith, h.partitions_len) in
      let e : 1 + who ≡ suc who = omega arith in
      let r : List ℕ = s.keys ++ (rows_of s.entries ++ zeros (14 * (128 - length s.entries))) in
      rw (e, get_or-append s.partitions r 0 who k)
      (ap (λ (t : List ℕ). length s.entries ∷ t) (sym (set-append_left s.partitions r who (with_bit (get_or s.partitions who 0) c) k)))

  pub give-key-words : encode (give who (key c) s) ≡ set (encode s) (9 + who) (with_bit (get_or (encode s) (9 + who) 0) c)
  unfolding encode give
  give-key-words =
      let k : who < length s.keys = omega (arith, h.keys_len) in
      let e : 9 + who ≡ suc (length s.partitions + who) = omega (arith, h.partitions_len) in
      let r : List ℕ = rows_of s.entries ++ zeros (14 * (128 - length s.entries)) in
      let g : get_or (s.partitions ++ (s.keys ++ r)) (length s.partitions + who) 0 ≡ get_or s.keys who 0 =
      get_or-append-add s.partitions (s.keys ++ r) who 0 ∙ get_or-append s.keys r 0 who k in
      let w : ℕ = with_bit (get_or s.keys who 0) c in
      rw (e, g)
      (ap (λ (t : List ℕ). length s.entries ∷ t)
      (sym (set_append_right s.partitions (s.keys ++ r) who w ∙ ap (λ (t : List ℕ). s.partitions ++ t) (set-append_left s.keys r who w k))))

-- ---- a put and a take: the words are cut before a row, into a front and what follows

rows_append : (es fs : List Entry) → rows_of (es ++ fs) ≡ rows_of es ++ rows_of fs
rows_append [] fs = refl
rows_append (e ∷ es) fs = ap (λ (t : List ℕ). row_of e ++ t) (rows_append es fs) ∙ sym (append_assoc (row_of e) (rows_of es) (rows_of fs))

-- the words before the row that follows those of es, with n in word 0
abbrev front : State → ℕ → List Entry → List ℕ
front s n es = n ∷ (s.partitions ++ (s.keys ++ rows_of es))

abbrev free : ℕ → List ℕ
free n = zeros (14 * (128 - n))

free-less : (n : ℕ) → n < 128 → free n ≡ zeros 14 ++ free (suc n)
unfolding zeros
free-less n l = let q : 14 * (128 - n) ≡ 14 + 14 * (128 - suc n) = omega arith in rw q (sym (replicate-append-replicate 14 (14 * (128 - suc n)) 0))

encode-cut : (s : State) (es fs : List Entry)
    → encode (with_entries (es ++ fs) s) ≡ front s (length (es ++ fs)) es ++ (rows_of fs ++ free (length (es ++ fs)))
unfolding encode
encode-cut s es fs = rw rows_append (simp append_assoc)

encode-end : (s : State) → encode s ≡ front s (length s.entries) s.entries ++ free (length s.entries)
unfolding encode
encode-end s = simp append_assoc

module _ (s : State) (h : WF s) (n : ℕ) (es : List Entry) (ok : All EntryOk es) (r : List ℕ) where
  front-len : length (front s n es) ≡ 17 + 14 * length es
  front-len =
      let a : length (s.partitions ++ (s.keys ++ rows_of es)) ≡ 8 + (8 + 14 * length es) =
      simp (length-append, rows-len es ok, h.partitions_len, h.keys_len) refl in
      omega arith

  take-front : take (17 + 14 * length es) (front s n es ++ r) ≡ front s n es
  take-front = take_at (front s n es) r (17 + 14 * length es) front-len

  drop-front : drop (17 + 14 * length es) (front s n es ++ r) ≡ r
  drop-front = drop_at (front s n es) r (17 + 14 * length es) front-len

-- the first free row is written, and word 0 grows by one
pub put-words : (s : State) (e : Entry) → WF s → length s.entries < 128
    → encode (with_entries (s.entries ++ (e ∷ [])) s)
    ≡ set (take (17 + 14 * length s.entries) (encode s) ++ (row_of e ++ drop (31 + 14 * length s.entries) (encode s))) 0 (suc (length s.entries))
put-words s e h l =
    let n : ℕ = length s.entries in
    let F : List ℕ = front s n s.entries in
    let a : length (s.entries ++ (e ∷ [])) ≡ suc n = length-append s.entries (e ∷ []) ∙ omega arith in
    let q : 31 + 14 * n ≡ (17 + 14 * n) + 14 = omega arith in
    let t : take (17 + 14 * n) (encode s) ≡ F = rw (encode-end s) (take-front s h n s.entries h.rows (free n)) in
    let d : drop (31 + 14 * n) (encode s) ≡ free (suc n) =
    rw (q, encode-end s, ← (drop-drop 14 (17 + 14 * n) (F ++ free n)), drop-front s h n s.entries h.rows (free n), free-less n l)
    (drop_at (zeros 14) (free (suc n)) 14 (length-zeros 14)) in
    rw (encode-cut s s.entries (e ∷ []), a, t, d)
    (ap (λ (x : List ℕ). front s (suc n) s.entries ++ (x ++ free (suc n))) (append-nil (row_of e)))

-- a row removed: those after it close up, a row of zeros follows them, and word 0 is less by one
pub take_words : (s : State) (es : List Entry) (e : Entry) (fs : List Entry) → WF s → s.entries ≡ es ++ (e ∷ fs)
    → All EntryOk es → All EntryOk (e ∷ fs) → length s.entries ≤ 128
    → encode (with_entries (es ++ fs) s)
    ≡ set
    (take (17 + 14 * length es) (encode s)
    ++ ((drop 14 (take (14 * (length s.entries - length es)) (drop (17 + 14 * length es) (encode s))) ++ zeros 14)
    ++ drop (17 + 14 * length s.entries) (encode s)))
    0 (length s.entries - 1)
take_words s es e fs h q oks okr l =
    let n : ℕ = length s.entries in
    let i : ℕ = length es in
    let m : ℕ = length (es ++ fs) in
    let k : n ≡ i + suc (length fs) = ap length q ∙ length-append es (e ∷ fs) in
    let j : m ≡ i + length fs = length-append es fs in
    let c : encode s ≡ front s n es ++ (rows_of (e ∷ fs) ++ free n) =
    rw q (encode-cut s es (e ∷ fs)) in
    let t : take (17 + 14 * i) (encode s) ≡ front s n es = rw c (take-front s h n es oks (rows_of (e ∷ fs) ++ free n)) in
    let d : drop (17 + 14 * i) (encode s) ≡ rows_of (e ∷ fs) ++ free n = rw c (drop-front s h n es oks (rows_of (e ∷ fs) ++ free n)) in
    let u : take (14 * (n - i)) (rows_of (e ∷ fs) ++ free n) ≡ rows_of (e ∷ fs) =
    take_at (rows_of (e ∷ fs)) (free n) (14 * (n - i)) (rows-len (e ∷ fs) okr ∙ omega arith) in
    let v : drop 14 (rows_of (e ∷ fs)) ≡ rows_of fs = row-rest e okr.0 (rows_of fs) in
    let z : drop (17 + 14 * n) (encode s) ≡ free n = rw (encode-end s) (drop-front s h n s.entries h.rows (free n)) in
    let f : free m ≡ zeros 14 ++ free n = (let r : suc m ≡ n = omega arith in rw (← r) (free-less m (omega arith))) in
    let r : m ≡ n - 1 = omega arith in
    rw (t, d, u, v, z, encode-cut s es fs, f, r, append_assoc (rows_of fs) (zeros 14) (free n)) refl

-- ---- the entries, row by row

drop-row : (j : ℕ) (r : List ℕ) → drop (14 * j) (drop 14 r) ≡ drop (14 * suc j) r
drop-row j r = let x : 14 + 14 * j ≡ 14 * suc j = omega arith in drop-drop (14 * j) 14 r ∙ rw x

pub entries-at : (n i : ℕ) (r : List ℕ) → i < n → drop i (entries_at n r) ≡ entry_at (drop (14 * i) r) ∷ drop (suc i) (entries_at n r)
entries-at zero i r l = absurd (not-suc-le-zero l)
entries-at (suc n) zero r l = refl
entries-at (suc n) (suc i) r l = rw (← (drop-row i r)) (entries-at n i (drop 14 r) (le_of_suc-le-suc l))

pub entry-at : (ws : List ℕ) (i : ℕ) → i < get_or ws 0 0
    → drop i (decode ws).entries ≡ entry_at (drop (14 * i) (drop 17 ws)) ∷ drop (suc i) (decode ws).entries
unfolding decode
entry-at ws i l = entries-at (get_or ws 0 0) i (drop 17 ws) l

-- the oldest match is in row i
pub first-at : (m : Entry → Bool) (n i : ℕ) (r : List ℕ) → i < n
    → ((j : ℕ) → j < i → m (entry_at (drop (14 * j) r)) ≡ false) → m (entry_at (drop (14 * i) r)) ≡ true
    → (first m (entries_at n r) ≡ some (entry_at (drop (14 * i) r)))
    × (without m (entries_at n r) ≡ take i (entries_at n r) ++ drop (suc i) (entries_at n r))
first-at m zero i r l h e = absurd (not-suc-le-zero l)
first-at m (suc n) zero r l h e = rw e (refl, refl)
first-at m (suc n) (suc i) r l h e =
    let h' : (j : ℕ) → j < i → m (entry_at (drop (14 * j) (drop 14 r))) ≡ false = λ j k. rw (drop-row j r) (h (suc j) (suc-le-suc k)) in
    let q = first-at m n i (drop 14 r) (le_of_suc-le-suc l) h' (rw (drop-row i r) e) in
    let z : m (entry_at r) ≡ false = h zero (zero-lt-suc i) in
    rw (z, ← (drop-row i r)) (q.0, ap (λ (t : List Entry). entry_at r ∷ t) q.1)

-- no row matches
pub first-none : (m : Entry → Bool) (n : ℕ) (r : List ℕ) → ((j : ℕ) → j < n → m (entry_at (drop (14 * j) r)) ≡ false)
    → first m (entries_at n r) ≡ none
first-none m zero r h = refl
first-none m (suc n) r h =
    let h' : (j : ℕ) → j < n → m (entry_at (drop (14 * j) (drop 14 r))) ≡ false = λ j k. rw (drop-row j r) (h (suc j) (suc-le-suc k)) in
    rw (h zero (zero-lt-suc n)) (first-none m n (drop 14 r) h')

-- ---- the edits of a sound space, as the code makes them

All-split : {A : Type 0} (P : A → Type 0) (l r : List A) → All P (l ++ r) → All P l × All P r
All-split P [] r h = (tt, h)
All-split P (x ∷ l) r h = let q = All-split P l r h.1 in ((h.0, q.0), q.1)

module _ (ws : List ℕ) (h : sound ws ≡ true) where
  pub give-partition-edit : (who c : ℕ) → who < 8
      → encode (give who (partition c) (decode ws)) ≡ set ws (1 + who) (with_bit (get_or ws (1 + who) 0) c)
  give-partition-edit who c l = rw (encode-decode ws h) at (give-partition-words (decode ws) who c (wf-decode ws h) l)

  pub give-key-edit : (who c : ℕ) → who < 8
      → encode (give who (key c) (decode ws)) ≡ set ws (9 + who) (with_bit (get_or ws (9 + who) 0) c)
  give-key-edit who c l = rw (encode-decode ws h) at (give-key-words (decode ws) who c (wf-decode ws h) l)

  pub put-edit : (e : Entry) → get_or ws 0 0 < 128
      → encode (with_entries ((decode ws).entries ++ (e ∷ [])) (decode ws))
      ≡ set (take (17 + 14 * get_or ws 0 0) ws ++ (row_of e ++ drop (31 + 14 * get_or ws 0 0) ws)) 0 (get_or ws 0 0 + 1)
  put-edit e l =
      let k : length (decode ws).entries ≡ get_or ws 0 0 = decode-len ws in
      rw (add-one (get_or ws 0 0)) (rw (encode-decode ws h, k) at (put-words (decode ws) e (wf-decode ws h) (omega arith)))

  pub take-edit : (r : ℕ) → r < get_or ws 0 0
      → encode (with_entries (take r (decode ws).entries ++ drop (suc r) (decode ws).entries) (decode ws))
      ≡ set
      (take (17 + 14 * r) ws
      ++ ((drop 14 (take (14 * (get_or ws 0 0 - r)) (drop (17 + 14 * r) ws)) ++ zeros 14) ++ drop (17 + 14 * get_or ws 0 0) ws))
      0 (get_or ws 0 0 - 1)
  take-edit r l =
      let es : List Entry = (decode ws).entries in
      let e : Entry = entry_at (drop (14 * r) (drop 17 ws)) in
      let k : length es ≡ get_or ws 0 0 = decode-len ws in
      let i : length (take r es) ≡ r = length-take r es ∙ omega arith in
      let q : es ≡ take r es ++ (e ∷ drop (suc r) es) = sym (rw (← (entry-at ws r l)) (take-append-drop r es)) in
      let ok = All-split EntryOk (take r es) (e ∷ drop (suc r) es) (subst (All EntryOk) q (wf-decode ws h).rows) in
      let few : length es ≤ 128 = omega (arith, (sound-facts ws h).count) in
      rw (encode-decode ws h, i, k) at (take_words (decode ws) (take r es) e (drop (suc r) es) (wf-decode ws h) q ok.0 ok.1 few)
