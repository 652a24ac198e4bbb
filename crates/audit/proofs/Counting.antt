-- The pass over the live rows, which counts each writer's: what holds when r of them are passed.
use mathlib.Core.Path.{◌≡◌, refl, sym, ap, ap₂, ◌∙◌}
use mathlib.Core.Logic.{◌⊎◌, inl, inr}
use mathlib.Core.Bool.{Bool, true, false, ◌&&◌, cond}
use mathlib.Core.List.{List, ◌∷◌}
use Prim.Native.Nat.{ℕ, suc, ◌+◌, ◌-◌, ◌≤◌, ◌<◌}
use native.Mathlib.Nat.{add-sub_cancel_left}
use native.Mathlib.Omega.{arith}
use borrow.Author.Tests.{eqb-true, eqb-false, le-leb}
use lib.Dec.{eqb, leb}
use lib.ListN.{length, get_or, take, drop, set, replicate, length-set, length-take, length-drop, get_or-replicate}
use lib.Seq.{drop-drop, get_or-take, get_or-drop, get_or-set_same, get_or-set_other}
use Rattle.rules.specs.Lists.{all, keep}
use Rattle.rules.specs.Matching.{Entry}
use Rattle.rules.specs.State.{live, wrote, limit_of}
use Rattle.rules.specs.Names.{parties}
use Rattle.rules.specs.Words.{row_start, entry_at, entries_at, decode, row_ok, rows_ok, sound}
use Rattle.rules.proofs.BitLaws.{eqb_same}
use Rattle.rules.proofs.ListLaws.{bool, clash}
use Rattle.rules.proofs.Back.{sound-facts, wf-decode, row_back}
use Rattle.rows.proofs.RowLaws.{row-lent}
use Rattle.audit.specs.Audited.{Counted}

-- the words from row r on, which are row r and those from the next row on
abbrev pub rows_from : List ℕ → ℕ → List ℕ
rows_from ws r = drop (row_start r) ws

pub rows-after : (ws : List ℕ) (r : ℕ) → drop 14 (rows_from ws r) ≡ rows_from ws (r + 1)
rows-after ws r = let e : row_start r + 14 ≡ row_start (r + 1) = omega arith in drop-drop 14 (row_start r) ws ∙ ap (λ (k : ℕ). drop k ws) e

abbrev pub writer_at : List ℕ → ℕ → ℕ
writer_at ws r = get_or ws (row_start r) 0

pub record Counting (ws counts : List ℕ) (r : ℕ) : Type 0 where
  pub bound : r ≤ get_or ws 0 0
  pub len : length counts ≡ 8
  pub rows : rows_ok (get_or ws 0 0 - r) (rows_from ws r) ≡ rows_ok (get_or ws 0 0) (drop 17 ws)
  pub count : (who : ℕ) → who ≤ 7 → get_or counts who 0 + live who (entries_at (get_or ws 0 0 - r) (rows_from ws r)) ≡ live who (decode ws).entries
  pub within : (who : ℕ) → who ≤ 7 → get_or counts who 0 ≤ 16

pub counting-none : (ws counts : List ℕ) → counts ≡ replicate 8 0 → Counting ws counts 0
unfolding decode
counting-none ws counts e =
    let all : get_or ws 0 0 - 0 ≡ get_or ws 0 0 = omega arith in
    let none : (who : ℕ) → who ≤ 7 → get_or counts who 0 ≡ 0 = λ who l. rw e (get_or-replicate 8 who 0 0 (omega arith)) in
    record {
      bound = omega arith;
      len = rw e refl;
      rows = rw all;
      count = λ who l. rw (all, none who l) (omega arith);
      within = λ who l. rw (none who l) (omega arith);
    }

live-cons : (who : ℕ) (e : Entry) (es : List Entry) → live who (e ∷ es) ≡ cond (wrote who e) 1 0 + live who es
unfolding live
live-cons who e es = go (wrote who e)
  where
    go : (b : Bool) → length (cond b (e ∷ keep (wrote who) es) (keep (wrote who) es)) ≡ cond b 1 0 + length (keep (wrote who) es)
    go true = omega arith
    go false = omega arith

-- the count of one writer raised by 1
abbrev pub raised : List ℕ → ℕ → List ℕ
raised counts w = set counts w (get_or counts w 0 + 1)

raised_at : (counts : List ℕ) (w who : ℕ) → w < length counts → get_or (raised counts w) who 0 ≡ cond (eqb w who) 1 0 + get_or counts who 0
raised_at counts w who l = go (bool (eqb w who))
  where
    go : (eqb w who ≡ true) ⊎ (eqb w who ≡ false) → get_or (raised counts w) who 0 ≡ cond (eqb w who) 1 0 + get_or counts who 0
    go (inl q) = rw (← (eqb-true w who q), eqb_same w) (get_or-set_same counts w (get_or counts w 0 + 1) 0 l ∙ omega arith)
    go (inr q) = rw q (get_or-set_other counts w who (get_or counts w 0 + 1) 0 (λ e. eqb-false w who q (sym e)) ∙ omega arith)

raised-le : (counts : List ℕ) (w who : ℕ) → get_or counts w 0 < 16 → get_or counts who 0 ≤ 16 → cond (eqb w who) 1 0 + get_or counts who 0 ≤ 16
raised-le counts w who h k = go (bool (eqb w who))
  where
    go : (eqb w who ≡ true) ⊎ (eqb w who ≡ false) → cond (eqb w who) 1 0 + get_or counts who 0 ≤ 16
    go (inl q) = rw q (omega (arith, rw (eqb-true w who q) at h))
    go (inr q) = rw q (omega arith)

unsound : (ws : List ℕ) → (sound ws ≡ true → ⊥) → sound ws ≡ false
unsound ws h = go (bool (sound ws))
  where
    go : (sound ws ≡ true) ⊎ (sound ws ≡ false) → sound ws ≡ false
    go (inl e) = absurd (h e)
    go (inr e) = e

first_word : (ws : List ℕ) (r : ℕ) → get_or (rows_from ws r) 0 0 ≡ writer_at ws r
first_word ws r = let e : row_start r + 0 ≡ row_start r = omega arith in get_or-drop (row_start r) ws 0 0 ∙ ap (λ (k : ℕ). get_or ws k 0) e

row_cut : (l : List ℕ) → 14 ≤ length l → row_ok (take 14 l) ≡ row_ok l
row_cut l h = row-lent l 0 h

-- S6: the writer of a good row is a party
writer-le : (row : List ℕ) → length row ≡ 14 → row_ok row ≡ true → get_or row 0 0 ≤ 7
writer-le row l e = (row_back row (omega arith) e).0.writer_ok

-- row r, as the part of the space that is lent from its start on
pub lent-row : (ws : List ℕ) (r : ℕ) {at : ℕ} → at ≡ row_start r → take (at + 14 - at) (drop at ws) ≡ take 14 (rows_from ws r)
lent-row ws r here = rw (here, add-sub_cancel_left) refl

-- one row more, as it is lent
module _ (ws counts : List ℕ) (r : ℕ) {row : List ℕ} (len : length ws ≡ 1809) (few : get_or ws 0 0 ≤ 128) (at : Counting ws counts r)
    (more : r < get_or ws 0 0) (lent : row ≡ take 14 (rows_from ws r)) where
  left : get_or ws 0 0 - r ≡ suc (get_or ws 0 0 - (r + 1))
  left = omega arith

  row_is : row_ok row ≡ row_ok (rows_from ws r)
  row_is = ap row_ok lent ∙ row_cut (rows_from ws r) (simp length-drop (omega arith))

  writer-is : get_or row 0 0 ≡ writer_at ws r
  writer-is = ap (λ (l : List ℕ). get_or l 0 0) lent ∙ get_or-take 14 (rows_from ws r) 0 0 (omega arith) ∙ first_word ws r

  length-row : length row ≡ 14
  length-row = ap length lent ∙ simp (length-take, length-drop) (omega arith)

  rows_next : (row_ok (rows_from ws r) && rows_ok (get_or ws 0 0 - (r + 1)) (rows_from ws (r + 1))) ≡ rows_ok (get_or ws 0 0) (drop 17 ws)
  rows_next =
      ap (λ (l : List ℕ). row_ok (rows_from ws r) && rows_ok (get_or ws 0 0 - (r + 1)) l) (sym (rows-after ws r))
      ∙ ap (λ (k : ℕ). rows_ok k (rows_from ws r)) (sym left)
      ∙ at.rows

  pub row-bad : row_ok row ≡ false → sound ws ≡ false
  row-bad e = unsound ws (λ s. clash (rows_ok (get_or ws 0 0) (drop 17 ws)) (sound-facts ws s).rows (sym rows_next ∙ rw (sym row_is ∙ e)))

  live-next : (who : ℕ) → live who (entries_at (get_or ws 0 0 - r) (rows_from ws r))
      ≡ cond (eqb (writer_at ws r) who) 1 0 + live who (entries_at (get_or ws 0 0 - (r + 1)) (rows_from ws (r + 1)))
  live-next who =
      ap (λ (k : ℕ). live who (entries_at k (rows_from ws r))) left
      ∙ live-cons who (entry_at (rows_from ws r)) (entries_at (get_or ws 0 0 - (r + 1)) (drop 14 (rows_from ws r)))
      ∙ ap₂ (λ (w : ℕ) (l : List ℕ). cond (eqb w who) 1 0 + live who (entries_at (get_or ws 0 0 - (r + 1)) l)) (first_word ws r) (rows-after ws r)

  -- the writer w has as many as it may have before this row
  too-many-of : {w : ℕ} → w ≡ writer_at ws r → w ≤ 7 → 16 ≤ get_or counts w 0 → sound ws ≡ false
  too-many-of {w} e l h =
      let next : live w (entries_at (get_or ws 0 0 - r) (rows_from ws r)) ≡ 1 + live w (entries_at (get_or ws 0 0 - (r + 1)) (rows_from ws (r + 1))) =
      live-next w ∙ rw (← e, eqb_same w) in
      unsound ws (λ s. omega (arith, at.count w l, (wf-decode ws s).limits w))

  counting-of : {w : ℕ} → w ≡ writer_at ws r → w ≤ 7 → row_ok (rows_from ws r) ≡ true → get_or counts w 0 < 16
      → Counting ws (raised counts w) (r + 1)
  counting-of {w} q l e h =
      let fits : w < length counts = omega (arith, at.len) in
      record {
        bound = omega arith;
        len = length-set counts w (get_or counts w 0 + 1) ∙ at.len;
        rows = (rw e at rows_next);
        count = λ who k. rw (raised_at counts w who fits) (omega (arith, at.count who k, rw (← q) at (live-next who)));
        within = λ who k. rw (raised_at counts w who fits) (raised-le counts w who h (at.within who k));
      }

  pub writer-low : row_ok row ≡ true → get_or row 0 0 ≤ 7
  writer-low e = writer-le row length-row e

  pub too_many : row_ok row ≡ true → 16 ≤ get_or counts (get_or row 0 0) 0 → sound ws ≡ false
  too_many e h = too-many-of writer-is (writer-low e) h

  pub counting_more : row_ok row ≡ true → get_or counts (get_or row 0 0) 0 < 16 → Counting ws (raised counts (get_or row 0 0)) (r + 1)
  counting_more e h = counting-of writer-is (writer-low e) (sym row_is ∙ e) h

all-parties : (p : ℕ → Bool) → ((who : ℕ) → who ≤ 7 → p who ≡ true) → all p parties ≡ true
all-parties p h =
    rw (
      h 0 (omega arith),
      h 1 (omega arith),
      h 2 (omega arith),
      h 3 (omega arith),
      h 4 (omega arith),
      h 5 (omega arith),
      h 6 (omega arith),
      h 7 (omega arith),
    )

pub counting-done : (ws counts : List ℕ) (r : ℕ) → Counting ws counts r → get_or ws 0 0 ≤ r → Counted ws counts
unfolding live
counting-done ws counts r at h =
    let end : r ≡ get_or ws 0 0 = omega (arith, at.bound) in
    let none : get_or ws 0 0 - r ≡ 0 = omega arith in
    let charges : (who : ℕ) → who ≤ 7 → get_or counts who 0 ≡ live who (decode ws).entries = λ who l. omega (arith, rw none at (at.count who l)) in
    record {
      rows = sym (rw (none, end) at at.rows);
      limits = all-parties (λ who. leb (live who (decode ws).entries) (limit_of (decode ws) who))
          (λ who l. le-leb (live who (decode ws).entries) 16 (rw (← (charges who l)) (at.within who l)));
      charges = charges;
    }
