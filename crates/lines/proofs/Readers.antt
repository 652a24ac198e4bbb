-- The fields that were read, as the first of the words that they were read into.
use Rattle.std.proofs.Common.{◌≡◌, refl, ap, cond, ℕ, ◌≤◌, List, length, take, drop, Some, None, arith}
use Rattle.std.proofs.Math.Option.{Option, none, some}
use Rattle.std.proofs.Math.Seq.{take-append_seam}
use mathlib.Core.Bool.{and_assoc}
use Rattle.rules.specs.Matching.{Op}
use Rattle.numbers.specs.Parts.{same}
use Rattle.text.specs.Fields.{read_fields, words_after}
use Rattle.text.specs.Answers.{count_of}
use Rattle.text.proofs.ListReading.{words-read}
use Rattle.lines.specs.Lines as lines
use Rattle.lines.specs.Lines.{item}
use Rattle.lines.specs.Read.{give_in, put_in, seek_in, ItemsOf}
use Rattle.lines.specs.declared.Items.{Items}

pub fields_read : (n : ℕ) (text lent : List ℕ) → Some n ≡ count_of (read_fields text)
    → (some (take n (words_after text lent)) ≡ read_fields text) × (n ≤ 16)
fields_read n text lent e = go (read_fields text) refl
  where
    go : (o : Option (List ℕ)) → read_fields text ≡ o → (some (take n (words_after text lent)) ≡ read_fields text) × (n ≤ 16)
    go none q = let r : Some n ≡ None = rw q at e in let z : ◌≡◌ {A = ℕ} 0 1 = cc in absurd (omega arith)
    go (some ws) q =
        let r : Some n ≡ Some (length ws) = rw q at e in
        let k : n ≡ length ws = cc in
        let w = words-read text lent ws q in
        (rw (q, k, w.0) (ap some (take-append_seam ws (drop (length ws) lent))), rw k w.1)

-- ---- a line's readers, by its items
module _ (line : List ℕ) (r : Items) (i : ItemsOf line r) where
  pub give_by : lines.read_give line ≡ give_in r
  unfolding lines.read_give
  give_by =
      rw (i.party, i.rpart, i.rkey, i.tpart, i.tkey, i.fields)
      (rw (and_assoc (same (item 4 line) lines.dash) (same (item 5 line) lines.dash) (same (item 6 line) lines.dash)) refl)

  pub put_by : lines.read_put line ≡ put_in r
  unfolding lines.read_put
  put_by = rw (i.party, i.rpart, i.rkey, i.tpart, i.tkey, i.fields) refl

  pub seek_by : (op : Op) → lines.read_seek op line ≡ seek_in op r
  unfolding lines.read_seek
  seek_by op = rw (i.party, i.rpart, i.rkey, i.tpart, i.tkey, i.fields) refl

  pub line_by : lines.read_line line
      ≡ cond (same r.call.now lines.give_word) (give_in r)
      (cond (same r.call.now lines.put_word) (put_in r) (lines.read_seek_by (lines.op_of r.call.now) line))
  unfolding lines.read_line
  line_by = rw (i.six, i.call, ← give_by, ← put_by) refl
