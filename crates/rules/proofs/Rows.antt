-- The layout: what is encoded is decoded again, and is sound.
use mathlib.Core.Path.{◌≡◌, refl, sym, ap, ap₂, ◌∙◌}
use mathlib.Core.Bool.{true}
use mathlib.Core.List.{List, [], ◌∷◌, ◌++◌, append_assoc}
use Prim.Native.Nat.{ℕ, zero, suc, ◌+◌, ◌-◌, ◌*◌, ◌≤◌}
use native.Mathlib.Omega.{arith}
use lib.Dec.{leb, le→leb}
use lib.ListN.{length, get_or, take, drop, length-append, length-replicate}
use lib.Seq.{drop-drop, take-append_seam, drop-append_seam, take_at, drop_at}
use Rattle.rules.specs.Lists.{all, All}
use Rattle.rules.specs.Partitions.{sets}
use Rattle.rules.specs.Fields.{put_field}
use Rattle.rules.specs.Matching.{Pair, Entry}
use Rattle.rules.specs.State.{State, live, limit_of}
use Rattle.rules.specs.Words.{zeros, row_of, rows_of, encode, entry_at, entries_at, decode, is_zero, row_ok, rows_ok, holdings_ok, sound}
use Rattle.rules.proofs.BitLaws.{of_t}

-- a pair that a row can hold
pub record PairOk (p : Pair ℕ) : Type 0 where
  pub partitions_ok : sets.in_range p.partitions ≡ true
  pub key_ok : p.key ≤ 62

-- an entry that a row can hold
pub record EntryOk (e : Entry) : Type 0 where
  pub writer_ok : e.writer ≤ 7
  pub read_ok : PairOk e.read_pair
  pub take_ok : PairOk e.take_pair
  pub some : 1 ≤ length e.fields
  pub few : length e.fields ≤ 8
  pub fields_ok : all put_field e.fields ≡ true

-- the state of a sound space
pub record WF (s : State) : Type 0 where
  pub partitions_len : length s.partitions ≡ 8
  pub keys_len : length s.keys ≡ 8
  pub holdings : holdings_ok s ≡ true
  pub rows : All EntryOk s.entries
  pub limits : (p : ℕ) → live p s.entries ≤ limit_of s p

pub length-zeros : (n : ℕ) → length (zeros n) ≡ n
unfolding zeros
length-zeros n = length-replicate n 0

module _ (e : Entry) (h : EntryOk e) (rest : List ℕ) where
  fs : List ℕ
  fs = e.fields

  pad : List ℕ
  pad = zeros (8 - length e.fields)

  fields-len : length (e.fields ++ pad) ≡ 8
  unfolding pad
  fields-len = length-append e.fields pad ∙ rw length-zeros (omega (arith, h.few))

  row-fields : take (length e.fields) ((e.fields ++ pad) ++ rest) ≡ e.fields
  row-fields = rw append_assoc (take-append_seam e.fields (pad ++ rest))

  pub row-rest : drop 14 (row_of e ++ rest) ≡ rest
  unfolding pad
  row-rest = drop_at (e.fields ++ pad) rest 8 fields-len

  row-entry : entry_at (row_of e ++ rest) ≡ e
  unfolding pad
  row-entry = rw row-fields refl

  row-pad : drop (length e.fields) (take 8 ((e.fields ++ pad) ++ rest)) ≡ pad
  row-pad = rw (take_at (e.fields ++ pad) rest 8 fields-len) (drop-append_seam e.fields pad)

rows_back : (es : List Entry) → All EntryOk es → (rest : List ℕ) → entries_at (length es) (rows_of es ++ rest) ≡ es
rows_back [] h rest = refl
rows_back (e ∷ es) h rest =
    rw (append_assoc (row_of e) (rows_of es) rest)
    (ap₂ (λ x y. x ∷ y) (row-entry e h.0 (rows_of es ++ rest))
    (ap (entries_at (length es)) (row-rest e h.0 (rows_of es ++ rest)) ∙ rows_back es h.1 rest))

pub rows-len : (es : List Entry) → All EntryOk es → length (rows_of es) ≡ 14 * length es
unfolding pad
rows-len [] h = refl
rows-len (e ∷ es) h =
    let a : length (row_of e ++ rows_of es) ≡ length (row_of e) + length (rows_of es) = length-append (row_of e) (rows_of es) in
    let b : length (row_of e) ≡ 14 = ap (λ n. suc (suc (suc (suc (suc (suc n)))))) (fields-len e h.0 []) in
    let c : length (rows_of es) ≡ 14 * length es = rows-len es h.1 in
    omega arith

-- the words, part by part
module _ (s : State) (h : WF s) (few : length s.entries ≤ 128) where
  tail0 : List ℕ
  tail0 = zeros (14 * (128 - length s.entries))

  enc-parts : take 8 (drop 1 (encode s)) ≡ s.partitions
  unfolding encode tail0
  enc-parts = take_at s.partitions (s.keys ++ (rows_of s.entries ++ tail0)) 8 h.partitions_len

  enc-rest : drop 9 (encode s) ≡ s.keys ++ (rows_of s.entries ++ tail0)
  unfolding encode tail0
  enc-rest = drop_at s.partitions (s.keys ++ (rows_of s.entries ++ tail0)) 8 h.partitions_len

  enc-keys : take 8 (drop 9 (encode s)) ≡ s.keys
  enc-keys = rw enc-rest (take_at s.keys (rows_of s.entries ++ tail0) 8 h.keys_len)

  enc-rows : drop 17 (encode s) ≡ rows_of s.entries ++ tail0
  enc-rows = sym (drop-drop 8 9 (encode s)) ∙ rw enc-rest (drop_at s.keys (rows_of s.entries ++ tail0) 8 h.keys_len)

  enc-count : get_or (encode s) 0 0 ≡ length s.entries
  unfolding encode
  enc-count = refl

  enc-len : length (encode s) ≡ 1809
  unfolding encode tail0
  enc-len =
      let a : length (s.partitions ++ (s.keys ++ (rows_of s.entries ++ tail0))) ≡ 8 + (8 + (14 * length s.entries + 14 * (128 - length s.entries))) =
      simp (length-append, length-zeros, rows-len s.entries h.rows, h.partitions_len, h.keys_len) refl in
      omega arith

  pub decode-encode : decode (encode s) ≡ s
  unfolding decode
  decode-encode = rw (enc-parts, enc-keys, enc-rows, enc-count, rows_back s.entries h.rows tail0) refl

leb-true : {m n : ℕ} → m ≤ n → leb m n ≡ true
leb-true {m} {n} h = of_t (leb m n) (le→leb m n h)

pub zeros-zero : (n : ℕ) → all is_zero (zeros n) ≡ true
unfolding zeros
zeros-zero zero = refl
zeros-zero (suc n) = zeros-zero n

row-ok : (e : Entry) → EntryOk e → (rest : List ℕ) → row_ok (row_of e ++ rest) ≡ true
unfolding pad row_ok
row-ok e h rest =
    rw (
      leb-true h.writer_ok,
      h.read_ok.partitions_ok,
      leb-true h.read_ok.key_ok,
      h.take_ok.partitions_ok,
      leb-true h.take_ok.key_ok,
      leb-true h.some,
      leb-true h.few,
      row-fields e h rest,
      h.fields_ok,
      row-pad e h rest,
      zeros-zero (8 - length e.fields),
    ) refl

rows_ok_lem : (es : List Entry) → All EntryOk es → (n : ℕ) → rows_ok (length es) (rows_of es ++ zeros n) ≡ true
rows_ok_lem [] h n = zeros-zero n
rows_ok_lem (e ∷ es) h n =
    rw (append_assoc (row_of e) (rows_of es) (zeros n), row-ok e h.0 (rows_of es ++ zeros n), row-rest e h.0 (rows_of es ++ zeros n)) (rows_ok_lem es h.1 n)

pub sound-encode : (s : State) → WF s → length s.entries ≤ 128 → sound (encode s) ≡ true
unfolding sound tail0
sound-encode s h few =
    rw (
      enc-len s h few,
      enc-count s h few,
      leb-true few,
      decode-encode s h few,
      h.holdings,
      enc-rows s h few,
      rows_ok_lem s.entries h.rows (14 * (128 - length s.entries)),
    )
    (let within : (who : ℕ) → leb (live who s.entries) 16 ≡ true = λ who. leb-true (h.limits who) in
    rw (within 0, within 1, within 2, within 3, within 4, within 5, within 6, within 7) refl)
