-- A live row of a sound space: the entry that it holds, and when the entry matches, by the row's words.
use mathlib.Core.Path.{◌≡◌, refl, sym, ap, ◌∙◌}
use mathlib.Core.Logic.{◌⊎◌, inl, inr}
use mathlib.Core.Bool.{Bool, true, false, ◌&&◌, and_comm, and_assoc}
use mathlib.Core.List.{List, ◌∷◌}
use Prim.Native.Nat.{ℕ, zero, suc, ◌+◌, ◌-◌, ◌*◌, ◌≤◌, ◌<◌}
use native.Mathlib.Nat.{add-sub_cancel_left}
use native.Mathlib.Omega.{arith}
use native.Mathlib.Numerals.{add-one}
use borrow.Author.Tests.{eq-eqb, ne_eqb, eqb-true, eqb-false}
use lib.Dec.{eqb}
use lib.ListN.{length, get_or, take, drop, length-take, length-drop, drop_of_length-le}
use lib.Seq.{get_or-take, get_or-drop, drop-drop, drop-cons}
use Rattle.rules.specs.Names.{co_stored}
use Rattle.rules.specs.Partitions.{sets_agree, sets}
use Rattle.rules.specs.Fields.{field_agrees}
use Rattle.rules.specs.Matching.{pair, Entry, pair_for, fields_agree, matches}
use Rattle.rules.specs.Words.{row_start, entry_at, entries_at, decode, row_ok, rows_ok, sound}
use Rattle.rules.proofs.ListLaws.{bool, and_left, and_right}
use Rattle.rules.proofs.Rows.{PairOk, EntryOk}
use Rattle.rules.proofs.Back.{SoundFacts, sound-facts, row_back}
use Rattle.search.specs.Place.{meant}
use Rattle.search.specs.Pairs.{offset, SmallAt, pair_at}
use Rattle.search.specs.declared.Op.{Op}
use Rattle.search.specs.declared.Op.TheVariants.{Looking, Receiving, Taking}

-- L4: the entry of the row that begins at that word
abbrev pub entry_on : List ℕ → ℕ → Entry
entry_on ws at = entry_at (drop at ws)

-- L4: the words of that row before its fields, as they are lent
abbrev pub head_on : List ℕ → ℕ → List ℕ
head_on ws at = take (at + 6 - at) (drop at ws)

head-word : (ws : List ℕ) (at k : ℕ) → k < 6 → get_or (head_on ws at) k 0 ≡ get_or ws (at + k) 0
head-word ws at k l = rw add-sub_cancel_left (get_or-take 6 (drop at ws) k 0 l ∙ get_or-drop at ws k 0)

pub head-len : (ws : List ℕ) (at : ℕ) → at + 6 ≤ length ws → length (head_on ws at) ≡ 6
head-len ws at l = rw add-sub_cancel_left (simp (length-take, length-drop) (omega arith))

-- M1, M3, M4: the test of these words, where b says whether the sets agree
pub pair-by : (head : List ℕ) (o p k n : ℕ) (b : Bool) → b ≡ sets_agree p (get_or head o 0)
    → ((eqb (get_or head 5 0) n && b) && eqb (get_or head (o + 1) 0) k) ≡ pair_at head o p k n
unfolding pair_at
pair-by head o p k n b e = rw e refl

-- row r is live and begins at that word
pub record LiveRow (ws : List ℕ) (r at : ℕ) : Type 0 where
  pub split : drop r (decode ws).entries ≡ entry_on ws at ∷ drop (r + 1) (decode ws).entries
  pub ok : EntryOk (entry_on ws at)
  pub count : length (entry_on ws at).fields ≡ get_or ws (at + 5) 0

rows_at : (n : ℕ) (rows : List ℕ) (r : ℕ) → r < n → rows_ok n rows ≡ true
    → (drop r (entries_at n rows) ≡ entry_at (drop (14 * r) rows) ∷ drop (suc r) (entries_at n rows)) × (row_ok (drop (14 * r) rows) ≡ true)
rows_at zero rows r l h = absurd (omega arith)
rows_at (suc n) rows zero l h = (refl, and_left (row_ok rows) (rows_ok n (drop 14 rows)) h)
rows_at (suc n) rows (suc r) l h =
    let k = rows_at n (drop 14 rows) r (omega arith) (and_right (row_ok rows) (rows_ok n (drop 14 rows)) h) in
    let a : 14 + 14 * r ≡ 14 * suc r = omega arith in
    let e : drop (14 * r) (drop 14 rows) ≡ drop (14 * suc r) rows = drop-drop (14 * r) 14 rows ∙ ap (λ (n : ℕ). drop n rows) a in
    (rw e at k.0, rw e at k.1)

pub live-row : (ws : List ℕ) (r : ℕ) {at : ℕ} → at ≡ row_start r → sound ws ≡ true → r < get_or ws 0 0 → LiveRow ws r at
unfolding decode
live-row ws r {at} here s l =
    let f : SoundFacts ws = sound-facts ws s in
    let e : drop (14 * r) (drop 17 ws) ≡ drop at ws = drop-drop (14 * r) 17 ws ∙ ap (λ (k : ℕ). drop k ws) (sym here) in
    let k = rows_at (get_or ws 0 0) (drop 17 ws) r l f.rows in
    let row : row_ok (drop at ws) ≡ true = rw e at k.1 in
    let b = row_back (drop at ws) (rw length-drop (omega (arith, f.len, f.count))) row in
    record {
      split = rw (add-one, ← e) k.0;
      ok = b.0;
      count = ap (λ (row : List ℕ). get_or row 5 0) b.1 ∙ get_or-take 14 (drop at ws) 5 0 (omega arith) ∙ get_or-drop at ws 5 0;
    }

-- ---- when its entry matches

eqb_comm : (a b : ℕ) → eqb a b ≡ eqb b a
eqb_comm a b = go (bool (eqb b a))
  where
    go : (eqb b a ≡ true) ⊎ (eqb b a ≡ false) → eqb a b ≡ eqb b a
    go (inl h) = eq-eqb a b (sym (eqb-true b a h)) ∙ sym h
    go (inr h) = ne_eqb a b (λ e. eqb-false b a h (sym e)) ∙ sym h

-- two stored keys are equal exactly when their co-keys are
co-eqb : (a b : ℕ) → a ≤ 62 → b ≤ 62 → eqb (co_stored a) (co_stored b) ≡ eqb a b
co-eqb a b l k = go (bool (eqb a b))
  where
    go : (eqb a b ≡ true) ⊎ (eqb a b ≡ false) → eqb (co_stored a) (co_stored b) ≡ eqb a b
    go (inl h) = rw (eqb-true a b h) (eq-eqb (62 - b) (62 - b) refl ∙ sym (eq-eqb b b refl))
    go (inr h) = ne_eqb (62 - a) (62 - b) (λ e. eqb-false a b h (omega arith)) ∙ sym h

fields-last : (a f p : Bool) → (a && (f && p)) ≡ ((a && p) && f)
fields-last true f p = and_comm f p
fields-last false f p = refl

pub offset-le : (op : Op) (n : ℕ) → n ≡ offset op → n ≤ 3
offset-le Looking n e = omega arith
offset-le Receiving n e = omega arith
offset-le Taking n e = omega arith

module _ {ws : List ℕ} {r at : ℕ} (row : LiveRow ws r at) where
  -- L4, S6: the pair that the operation goes by, and its words
  pair-on : (op : Op) → ((pair_for (meant op) (entry_on ws at)).partitions ≡ get_or ws (at + offset op) 0)
      × ((pair_for (meant op) (entry_on ws at)).key ≡ get_or ws (at + (offset op + 1)) 0)
      × PairOk (pair_for (meant op) (entry_on ws at))
  pair-on Looking = (get_or-drop at ws 1 0, get_or-drop at ws 2 0, row.ok.read_ok)
  pair-on Receiving = (get_or-drop at ws 1 0, get_or-drop at ws 2 0, row.ok.read_ok)
  pair-on Taking = (get_or-drop at ws 3 0, get_or-drop at ws 4 0, row.ok.take_ok)

  -- S6: the words that the search tests first are in range
  pub small-on : (op : Op) (o : ℕ) → o ≡ offset op → SmallAt (head_on ws at) o
  small-on op o e =
      let q = pair-on op in
      let l = offset-le op o e in
      record {
        count = rw (head-word ws at 5 (omega arith)) (omega (arith, row.ok.few, row.count));
        key = rw (head-word ws at (o + 1) (omega arith), e) (omega (arith, q.2.key_ok, q.1));
      }

  -- M1, M3, M4: the test of these words, on the words of the space
  pair-words : (o p k n : ℕ) → o ≤ 3
      → pair_at (head_on ws at) o p k n ≡ (eqb (get_or ws (at + 5) 0) n && (sets_agree p (get_or ws (at + o) 0) && eqb (get_or ws (at + (o + 1)) 0) k))
  unfolding pair_at
  pair-words o p k n l =
      rw (head-word ws at 5 (omega arith), head-word ws at o (omega arith), head-word ws at (o + 1) (omega arith))
      (and_assoc (eqb (get_or ws (at + 5) 0) n) (sets_agree p (get_or ws (at + o) 0)) (eqb (get_or ws (at + (o + 1)) 0) k))

  -- M1: a row that passes the first test has as many fields
  pub count-on : (o p k n : ℕ) (x : Bool) → o ≤ 3 → x ≡ pair_at (head_on ws at) o p k n → x ≡ true → length (entry_on ws at).fields ≡ n
  count-on o p k n x l e h =
      row.count ∙ eqb-true (get_or ws (at + 5) 0) n (and_left (eqb (get_or ws (at + 5) 0) n) _ (sym (e ∙ pair-words o p k n l) ∙ h))

  -- M1 to M4, as the search goes about them: the pair, then the fields
  pub match-on : (op : Op) (o p k : ℕ) (t : List ℕ) (x b d : Bool) → o ≡ offset op → k ≤ 62 → x ≡ pair_at (head_on ws at) o p k (length t) → x ≡ b
      → fields_agree t (entry_on ws at).fields ≡ d → matches sets (meant op) (pair p (co_stored k)) t (entry_on ws at) ≡ (b && d)
  unfolding matches
  match-on op o p k t x b d e l h y g =
      let q = pair-on op in
      let key : ℕ = (pair_for (meant op) (entry_on ws at)).key in
      let first = h ∙ pair-words o p k (length t) (offset-le op o e) in
      fields-last (eqb (length t) (length (entry_on ws at).fields)) (fields_agree t (entry_on ws at).fields) _
      ∙ rw (co-eqb key k q.2.key_ok l, q.0, q.1, ← e, eqb_comm (length t) (length (entry_on ws at).fields), row.count, ← first, y, g)

  -- L4: field i and its word
  field-on : (i : ℕ) → i < length (entry_on ws at).fields → get_or (entry_on ws at).fields i 0 ≡ get_or ws (at + (6 + i)) 0
  field-on i l =
      let word : get_or (drop at ws) 5 0 ≡ get_or ws (at + 5) 0 = get_or-drop at ws 5 0 in
      let below : i < get_or (drop at ws) 5 0 = omega (arith, row.count) in
      get_or-take (get_or (drop at ws) 5 0) (drop 6 (drop at ws)) i 0 below
      ∙ get_or-drop 6 (drop at ws) i 0
      ∙ get_or-drop at ws (6 + i) 0

  -- M2: what is left of the fields at i is one field and what is left at i + 1
  pub fields-on : (t : List ℕ) (i : ℕ) (x b : Bool) → i < length t → length (entry_on ws at).fields ≡ length t
      → x ≡ field_agrees (get_or t i 0) (get_or ws (at + (6 + i)) 0) → x ≡ b
      → fields_agree (drop i t) (drop i (entry_on ws at).fields) ≡ (b && fields_agree (drop (i + 1) t) (drop (i + 1) (entry_on ws at).fields))
  fields-on t i x b l n h y =
      let k : i < length (entry_on ws at).fields = omega arith in
      rw (add-one, ← y, h, ← (field-on i k), drop-cons t i 0, drop-cons (entry_on ws at).fields i 0)

pub fields-end : (t fs : List ℕ) (i : ℕ) → length t ≤ i → fields_agree (drop i t) (drop i fs) ≡ true
fields-end t fs i l = rw (drop_of_length-le t l)
