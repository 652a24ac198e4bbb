-- A row as the code tests it: its head, then all eight field words as fields, then those past the fields for 0.
use mathlib.Core.Path.{◌≡◌, refl, sym, ap, ◌∙◌}
use mathlib.Core.Logic.{◌⊎◌, inl, inr}
use mathlib.Core.Bool.{Bool, true, false, ◌&&◌, and-true, and-false, and_comm, and_assoc, false≢true}
use mathlib.Core.List.{List, [], ◌∷◌}
use Prim.Native.Nat.{ℕ, ◌+◌, ◌-◌, ◌≤◌}
use native.Mathlib.Nat.{add-sub_cancel_left}
use native.Mathlib.Omega.{arith}
use borrow.Author.Tests.{leb-true, eqb-true}
use lib.Dec.{leb}
use lib.ListN.{length, get_or, take, drop, length-take, length-drop, take-append-drop}
use lib.Seq.{take_all, take-take, take-add, drop-drop, drop_at, get_or-take}
use Rattle.rules.specs.Lists.{all}
use Rattle.rules.specs.Partitions.{sets}
use Rattle.rules.specs.Fields.{field, put_field}
use Rattle.rules.specs.Words.{is_zero, head_ok, row_ok}
use Rattle.rules.proofs.ListLaws.{bool, and_left, and_right}
use Rattle.rules.proofs.Loops.{all_append}

-- S6: the tests of the head with the count's first, as the code has them
to_end : (a b c d e y : Bool) → ((a && (b && (c && (d && e)))) && y) ≡ (a && (b && (c && (d && (e && y)))))
to_end false b c d e y = refl
to_end true false c d e y = refl
to_end true true false d e y = refl
to_end true true true false e y = refl
to_end true true true true e y = refl

pub count-first : (r : List ℕ)
    → (leb 1 (get_or r 5 0)
    && (leb (get_or r 5 0) 8
    && (leb (get_or r 0 0) 7 && (sets.in_range (get_or r 1 0) && (leb (get_or r 2 0) 62 && (sets.in_range (get_or r 3 0) && leb (get_or r 4 0) 62))))))
    ≡ head_ok r
count-first r =
    let some : Bool = leb 1 (get_or r 5 0) in
    let few : Bool = leb (get_or r 5 0) 8 in
    let others : Bool = leb (get_or r 0 0) 7 && (sets.in_range (get_or r 1 0) && (leb (get_or r 2 0) 62 && (sets.in_range (get_or r 3 0) && leb (get_or r 4 0) 62))) in
    sym (and_assoc some few others)
    ∙ and_comm (some && few) others
    ∙ to_end (leb (get_or r 0 0) 7) (sets.in_range (get_or r 1 0)) (leb (get_or r 2 0) 62) (sets.in_range (get_or r 3 0)) (leb (get_or r 4 0) 62) (some && few)

-- S6: the head bounds the number of fields
pub few-fields : (r : List ℕ) → head_ok r ≡ true → get_or r 5 0 ≤ 8
few-fields r h = go (bool (leb (get_or r 5 0) 8))
  where
    go : (leb (get_or r 5 0) 8 ≡ true) ⊎ (leb (get_or r 5 0) 8 ≡ false) → get_or r 5 0 ≤ 8
    go (inl e) = leb-true (get_or r 5 0) 8 e
    go (inr e) = absurd (false≢true (simp (e, and-false) at h))

-- a word of 0 is a message, which a put may carry
zero-puts : (l : List ℕ) → all is_zero l ≡ true → all put_field l ≡ true
unfolding put_field field
zero-puts [] h = refl
zero-puts (w ∷ l) h =
    let z : w ≡ 0 = eqb-true w 0 (and_left (is_zero w) (all is_zero l) h) in
    rw z (zero-puts l (and_right (is_zero w) (all is_zero l) h))

-- where z holds a test can be another that agrees with it there
and-where : (a b z : Bool) → (z ≡ true → a ≡ b) → (a && z) ≡ (b && z)
and-where a b true e = rw (e refl)
and-where a b false e = and-false a ∙ sym (and-false b)

-- where the words past the fields are 0, the fields can be tested with them
fields-tested : (n : ℕ) (l : List ℕ) → (all put_field (take n l) && all is_zero (drop n l)) ≡ (all put_field l && all is_zero (drop n l))
fields-tested n l =
    and-where (all put_field (take n l)) (all put_field l) (all is_zero (drop n l)) (λ z.
    sym
    (ap (all put_field) (sym (take-append-drop n l))
    ∙ all_append put_field (take n l) (drop n l)
    ∙ rw (zero-puts (drop n l) z) (and-true (all put_field (take n l)))))

-- a row of 14 words; its field words are the part that is lent
module _ (r : List ℕ) (len : length r ≡ 14) where
  row-tested : row_ok r ≡ (head_ok r && (all put_field (drop 6 r) && all is_zero (drop (6 + get_or r 5 0) r)))
  unfolding row_ok
  row-tested =
      rw (take_all 8 (drop 6 r) (simp length-drop (omega arith)), ← (drop-drop (get_or r 5 0) 6 r))
      (ap (λ (b : Bool). head_ok r && b) (fields-tested (get_or r 5 0) (drop 6 r)))

  -- its field words are the part that is lent
  pub row-decided : {head fields : Bool} → head ≡ head_ok r → fields ≡ all put_field (take (length r - 6) (drop 6 r))
      → row_ok r ≡ (head && (fields && all is_zero (drop (6 + get_or r 5 0) r)))
  row-decided h f = rw (h, f, take_all (length r - 6) (drop 6 r) (simp length-drop (omega arith))) row-tested

-- a row is tested alike with and without the words that follow it
head-cut : (r : List ℕ) → head_ok (take 14 r) ≡ head_ok r
head-cut r =
    rw (
      get_or-take 14 r 0 0 (omega arith),
      get_or-take 14 r 1 0 (omega arith),
      get_or-take 14 r 2 0 (omega arith),
      get_or-take 14 r 3 0 (omega arith),
      get_or-take 14 r 4 0 (omega arith),
      get_or-take 14 r 5 0 (omega arith),
    )

fields-cut : (r : List ℕ) → 14 ≤ length r → drop 6 (take 14 r) ≡ take 8 (drop 6 r)
fields-cut r l = ap (drop 6) (take-add 6 8 r) ∙ drop_at (take 6 r) (take 8 (drop 6 r)) 6 (simp length-take (omega arith))

row_cut : (r : List ℕ) → 14 ≤ length r → row_ok (take 14 r) ≡ row_ok r
unfolding row_ok
row_cut r l = rw (head-cut r, get_or-take 14 r 5 0 (omega arith), fields-cut r l) (go (bool (head_ok r)))
  where
    fs : List ℕ
    fs = drop 6 r

    n : ℕ
    n = get_or r 5 0

    go : (head_ok r ≡ true) ⊎ (head_ok r ≡ false)
        → (head_ok r && (all put_field (take n (take 8 fs)) && all is_zero (drop n (take 8 (take 8 fs)))))
        ≡ (head_ok r && (all put_field (take n fs) && all is_zero (drop n (take 8 fs))))
    go (inl e) = rw (take-take n 8 fs (few-fields r e), take-take 8 8 fs (omega arith))
    go (inr e) = rw e

-- the row that begins at word a, as the part of the space that is lent
module _ (ws : List ℕ) (a : ℕ) (fits : a + 14 ≤ length ws) where
  pub length_rest : 14 ≤ length (drop a ws)
  length_rest = simp length-drop (omega arith)

  pub length-row : length (take (a + 14 - a) (drop a ws)) ≡ 14
  length-row = rw add-sub_cancel_left (simp (length-take, length-drop) (omega arith))

  pub row-lent : row_ok (take (a + 14 - a) (drop a ws)) ≡ row_ok (drop a ws)
  row-lent = rw add-sub_cancel_left (row_cut (drop a ws) length_rest)
