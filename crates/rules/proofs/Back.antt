-- What soundness says, part by part, and that sound words are the words of the state that they stand for.
use mathlib.Core.Path.{◌≡◌, refl, sym, ap, ap₂, ◌∙◌}
use mathlib.Core.Logic.{◌⊎◌, inl, inr}
use mathlib.Core.Bool.{Bool, true, false, ◌&&◌}
use mathlib.Core.List.{List, [], ◌∷◌, ◌++◌, append_assoc}
use Prim.Native.Nat.{ℕ, zero, suc, ◌-◌, ◌*◌, ◌≤◌, ◌<◌}
use native.Mathlib.Omega.{arith}
use native.Mathlib.Decide.{dec_lt}
use lib.Dec.{leb, eqb, leb→le}
use lib.ListN.{length, get_or, take, drop, length-take, length-drop, take-append-drop}
use lib.Seq.{drop-drop, take-take, drop-cons}
use Rattle.rules.specs.Lists.{all, keep, All}
use Rattle.rules.specs.Names.{parties}
use Rattle.rules.specs.Partitions.{sets}
use Rattle.rules.specs.Fields.{put_field}
use Rattle.rules.specs.Matching.{Entry}
use Rattle.rules.specs.State.{State, live, limit_of, wrote}
use Rattle.rules.specs.Words.{zeros, row_of, rows_of, encode, entry_at, entries_at, decode, is_zero, row_ok, rows_ok, within_limits, holdings_ok, sound}
use Rattle.rules.proofs.BitLaws.{t_of, eqb-true}
use Rattle.rules.proofs.ListLaws.{bool, and_left, and_right, all_true}
use Rattle.rules.proofs.Rows.{EntryOk, WF}

leb-le : {m n : ℕ} → leb m n ≡ true → m ≤ n
leb-le {m} {n} e = leb→le m n (t_of e)

-- tests joined by &&, as the definitions nest them
abbrev pub joined : Bool → List Bool → Bool
joined b [] = b
joined b (c ∷ bs) = b && joined c bs

pub each : (b : Bool) (bs : List Bool) → joined b bs ≡ true → All (λ b. b ≡ true) (b ∷ bs)
each b [] h = (h, tt)
each b (c ∷ bs) h = (and_left b (joined c bs) h, each c bs (and_right b (joined c bs) h))

pub zeros-back : (r : List ℕ) → all is_zero r ≡ true → zeros (length r) ≡ r
unfolding zeros
zeros-back [] h = refl
zeros-back (w ∷ r) h =
    ap₂ (λ x y. x ∷ y) (sym (eqb-true w 0 (and_left (is_zero w) (all is_zero r) h))) (zeros-back r (and_right (is_zero w) (all is_zero r) h))

-- ---- one row

fields_back : (n : ℕ) (fs : List ℕ) → n ≤ 8 → 8 ≤ length fs → all is_zero (drop n (take 8 fs)) ≡ true
    → (length (take n fs) ≡ n) × (take n fs ++ zeros (8 - length (take n fs)) ≡ take 8 fs)
fields_back n fs h l z =
    let a : length (take n fs) ≡ n = length-take n fs ∙ omega arith in
    let b : length (drop n (take 8 fs)) ≡ 8 - n = length-drop n (take 8 fs) ∙ rw (length-take 8 fs) (omega arith) in
    let c : zeros (8 - n) ≡ drop n (take 8 fs) = rw (← b) (zeros-back (drop n (take 8 fs)) z) in
    (a, rw (a, c, ← (take-take n 8 fs h)) (take-append-drop n (take 8 fs)))

-- a row that passes the tests of soundness is the row of its entry
pub row_back : (r : List ℕ) → 14 ≤ length r → row_ok r ≡ true → EntryOk (entry_at r) × (row_of (entry_at r) ≡ take 14 r)
unfolding row_ok
row_back (a ∷ b ∷ c ∷ d ∷ e ∷ n ∷ fs) l h =
    let heads : List Bool = sets.in_range b ∷ leb c 62 ∷ sets.in_range d ∷ leb e 62 ∷ leb 1 n ∷ leb n 8 ∷ [] in
    let puts : Bool = all put_field (take n fs) in
    let pads : Bool = all is_zero (drop n (take 8 fs)) in
    let q = each (joined (leb a 7) heads) (puts ∷ pads ∷ []) h in
    let v = each (leb a 7) heads q.0 in
    let few : n ≤ 8 = leb-le v.1.1.1.1.1.1.0 in
    let k = fields_back n fs few (omega arith) q.1.1.0 in (
      record {
        writer_ok = leb-le v.0;
        read_ok = record { partitions_ok = v.1.0; key_ok = leb-le v.1.1.0 };
        take_ok = record { partitions_ok = v.1.1.1.0; key_ok = leb-le v.1.1.1.1.0 };
        some = rw k.0 (leb-le v.1.1.1.1.1.0);
        few = rw k.0 few;
        fields_ok = q.1.0;
      },
      ap₂ (λ x y. a ∷ b ∷ c ∷ d ∷ e ∷ x ∷ y) k.0 k.1,
    )
row_back [] l h = absurd (omega arith)
row_back (a ∷ []) l h = absurd (omega arith)
row_back (a ∷ b ∷ []) l h = absurd (omega arith)
row_back (a ∷ b ∷ c ∷ []) l h = absurd (omega arith)
row_back (a ∷ b ∷ c ∷ d ∷ []) l h = absurd (omega arith)
row_back (a ∷ b ∷ c ∷ d ∷ e ∷ []) l h = absurd (omega arith)

-- ---- the rows

pub entries-len : (n : ℕ) (r : List ℕ) → length (entries_at n r) ≡ n
entries-len zero r = refl
entries-len (suc n) r = ap suc (entries-len n (drop 14 r))

pub decode-len : (ws : List ℕ) → length (decode ws).entries ≡ get_or ws 0 0
unfolding decode
decode-len ws = entries-len (get_or ws 0 0) (drop 17 ws)

pub rows_back : (n : ℕ) (r : List ℕ) → 14 * n ≤ length r → rows_ok n r ≡ true
    → All EntryOk (entries_at n r) × (rows_of (entries_at n r) ++ zeros (length r - 14 * n) ≡ r)
rows_back zero r l h = let e : length r - 14 * 0 ≡ length r = omega arith in (tt, rw e (zeros-back r h))
rows_back (suc n) r l h =
    let a = row_back r (omega arith) (and_left (row_ok r) (rows_ok n (drop 14 r)) h) in
    let d : length (drop 14 r) ≡ length r - 14 = length-drop 14 r in
    let b = rows_back n (drop 14 r) (omega arith) (and_right (row_ok r) (rows_ok n (drop 14 r)) h) in
    let e : length r - 14 * suc n ≡ length (drop 14 r) - 14 * n = omega arith in (
      (a.0, b.0),
      rw (append_assoc (row_of (entry_at r)) (rows_of (entries_at n (drop 14 r))) (zeros (length r - 14 * suc n)), e, b.1)
          (ap (λ (x : List ℕ). x ++ drop 14 r) a.1 ∙ take-append-drop 14 r),
    )

-- ---- the limits

pub live-none : (p : ℕ) (es : List Entry) → All EntryOk es → 7 < p → live p es ≡ 0
unfolding live
live-none p [] h l = refl
live-none p (e ∷ es) h l = go (bool (wrote p e)) (live-none p es h.1 l)
  where
    go : (wrote p e ≡ true) ⊎ (wrote p e ≡ false) → length (keep (wrote p) es) ≡ 0 → length (keep (wrote p) (e ∷ es)) ≡ 0
    go (inl t) r = let q : e.writer ≡ p = eqb-true e.writer p t in absurd (omega (arith, h.0.writer_ok))
    go (inr t) r = rw t r

-- what holds of 0 to 7 holds of a party
pub each-party : (P : ℕ → Type 0) → All P parties → (p : ℕ) → p < 8 → P p
each-party P h zero l = h.0
each-party P h (suc zero) l = h.1.0
each-party P h (suc (suc zero)) l = h.1.1.0
each-party P h (suc (suc (suc zero))) l = h.1.1.1.0
each-party P h (suc (suc (suc (suc zero)))) l = h.1.1.1.1.0
each-party P h (suc (suc (suc (suc (suc zero))))) l = h.1.1.1.1.1.0
each-party P h (suc (suc (suc (suc (suc (suc zero)))))) l = h.1.1.1.1.1.1.0
each-party P h (suc (suc (suc (suc (suc (suc (suc zero))))))) l = h.1.1.1.1.1.1.1.0
each-party P h (suc (suc (suc (suc (suc (suc (suc (suc p)))))))) l = absurd (omega arith)

limits-back : (s : State) → All EntryOk s.entries → within_limits s ≡ true → (p : ℕ) → live p s.entries ≤ limit_of s p
limits-back s h a p = go (dec_lt p 8)
  where
    within : ℕ → Bool
    within who = leb (live who s.entries) (limit_of s who)

    go : Dec (p < 8) → live p s.entries ≤ limit_of s p
    go (yes l) = leb-le (each-party (λ who. within who ≡ true) (all_true within parties a) p l)
    go (no l) = let z : live p s.entries ≡ 0 = live-none p s.entries h (omega arith) in omega arith

-- ---- the whole space

-- what soundness says
pub record SoundFacts (ws : List ℕ) : Type 0 where
  pub len : length ws ≡ 1809
  pub count : get_or ws 0 0 ≤ 128
  pub holdings : holdings_ok (decode ws) ≡ true
  pub rows : rows_ok (get_or ws 0 0) (drop 17 ws) ≡ true
  pub limits : within_limits (decode ws) ≡ true

pub sound-facts : (ws : List ℕ) → sound ws ≡ true → SoundFacts ws
unfolding sound
sound-facts ws h =
    let rest = leb (get_or ws 0 0) 128 ∷ holdings_ok (decode ws) ∷ rows_ok (get_or ws 0 0) (drop 17 ws) ∷ within_limits (decode ws) ∷ [] in
    let q = each (eqb (length ws) 1809) rest h in
    record {
      len = eqb-true (length ws) 1809 q.0;
      count = leb-le q.1.0;
      holdings = q.1.1.0;
      rows = q.1.1.1.0;
      limits = q.1.1.1.1.0;
    }

module _ (ws : List ℕ) (h : sound ws ≡ true) where
  facts : SoundFacts ws
  facts = sound-facts ws h

  area-len : length (drop 17 ws) ≡ 1792
  area-len = length-drop 17 ws ∙ rw facts.len refl

  rows-of : All EntryOk (entries_at (get_or ws 0 0) (drop 17 ws))
      × (rows_of (entries_at (get_or ws 0 0) (drop 17 ws)) ++ zeros (length (drop 17 ws) - 14 * get_or ws 0 0) ≡ drop 17 ws)
  rows-of = rows_back (get_or ws 0 0) (drop 17 ws) (omega (arith, facts.count, area-len)) facts.rows

  pub wf-decode : WF (decode ws)
  unfolding decode
  wf-decode =
      let l : length ws ≡ 1809 = facts.len in
      record {
        partitions_len = length-take 8 (drop 1 ws) ∙ rw (length-drop 1 ws) (omega arith);
        keys_len = length-take 8 (drop 9 ws) ∙ rw (length-drop 9 ws) (omega arith);
        holdings = facts.holdings;
        rows = rows-of.0;
        limits = limits-back (decode ws) rows-of.0 facts.limits;
      }

  pub encode-decode : encode (decode ws) ≡ ws
  unfolding encode decode
  encode-decode =
      let l : length ws ≡ 1809 = facts.len in
      let n : length (entries_at (get_or ws 0 0) (drop 17 ws)) ≡ get_or ws 0 0 = entries-len (get_or ws 0 0) (drop 17 ws) in
      let e : 14 * (128 - get_or ws 0 0) ≡ length (drop 17 ws) - 14 * get_or ws 0 0 = omega (arith, facts.count, area-len) in
      let p : take 8 (drop 9 ws) ++ drop 17 ws ≡ drop 9 ws = rw (← (drop-drop 8 9 ws)) (take-append-drop 8 (drop 9 ws)) in
      let q : take 8 (drop 1 ws) ++ drop 9 ws ≡ drop 1 ws = rw (← (drop-drop 8 1 ws)) (take-append-drop 8 (drop 1 ws)) in
      rw (n, e, rows-of.1, p, q) (sym (drop-cons ws 0 0 (omega arith)))
