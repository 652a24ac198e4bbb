-- The rights in a roster's words: adding one adds no other, and a roster that an opening accepts is its rights.
use Prim.Native.Nat.{ℕ, zero, suc, ◌+◌, ◌-◌, ◌/◌, ◌%◌, ◌^◌, ◌<◌, suc-le-suc}
use mathlib.Core.Path.{◌≡◌, refl, sym, ap, ◌∙◌, subst}
use mathlib.Core.Logic.{◌⊎◌, inl, inr, ◌≢◌}
use mathlib.Core.Bool.{Bool, true, false, not}
use mathlib.Core.List.{List, [], ◌∷◌}
use native.Mathlib.Nat.{zero-lt-suc}
use native.Mathlib.Numerals.{add-one, one-add}
use native.Mathlib.Decide.{ℕ_discrete}
use native.Mathlib.Omega.{arith}
use borrow.Author.Tests.{not-true, not-false, ltb-true, ltb-false, eqb-true, eqb-false}
use lib.Bits.{or_lt}
use lib.Dec.{eqb, ltb}
use lib.ListN.{length, get_or, set, drop, length-set, length-drop}
use lib.Pow.{pow-lt, shr_lt, shr-shr}
use lib.Seq.{get_or-set_same, get_or-set_other, get_or-drop, ext_get_or}
use Rattle.rules.specs.Lists.{all, All}
use Rattle.rules.specs.Names.{Name, partition, key, NameInRange, bit, with_bit, set_bit, held_in}
use Rattle.rules.proofs.BitLaws.{bit-self, bit-set, bit-set-kept}
use Rattle.rules.proofs.ListLaws.{bool, clash, or_left, or_right, all_true, All-at}
use Rattle.roster_line.specs.Rights.{word_of, bit_of, with_right}
use Rattle.roster_file.specs.Claims.{Accepts}

-- the roster gives the party the name
abbrev pub has : List ℕ → ℕ → Name → Bool
has roster who n = held_in (get_or roster who 0) (get_or roster (8 + who) 0) n

pub has-bit : (r : List ℕ) (who : ℕ) (n : Name) → has r who n ≡ bit (get_or r (word_of who n) 0) (bit_of n)
unfolding held_in
has-bit r who (partition c) = refl
has-bit r who (key s) = refl

-- ---- a right added

bit-set-at : (l : List ℕ) (i j c d : ℕ) → bit (get_or (set_bit i c l) j 0) d ≡ true → (bit (get_or l j 0) d ≡ true) ⊎ ((i ≡ j) × (c ≡ d))
bit-set-at l i j c d h = go (ℕ_discrete i j)
  where
    go : Dec (i ≡ j) → (bit (get_or l j 0) d ≡ true) ⊎ ((i ≡ j) × (c ≡ d))
    go (yes e) = elim (bit-set l i j c d h) [ inl a ↦ inl a | inr q ↦ inr (e, q) ]
    go (no n) = inl (ap (λ (w : ℕ). bit w d) (sym (get_or-set_other l i j (with_bit (get_or l i 0) c) 0 (λ e. n (sym e)))) ∙ h)

-- no two rights are the same bit
one_place : (who q : ℕ) (n m : Name) → who < 8 → q < 8 → word_of who n ≡ word_of q m → bit_of n ≡ bit_of m → (who ≡ q) × (n ≡ m)
one_place who q (partition c) (partition d) h k e f = (e, ap partition f)
one_place who q (partition c) (key d) h k e f = absurd (omega arith)
one_place who q (key c) (partition d) h k e f = absurd (omega arith)
one_place who q (key c) (key d) h k e f = (omega arith, ap key f)

pub word_low : (who : ℕ) (n : Name) → who < 8 → word_of who n < 16
word_low who (partition c) h = omega arith
word_low who (key s) h = omega arith

pub bit-low : (n : Name) → NameInRange n → bit_of n < 64
bit-low (partition c) h = omega arith
bit-low (key s) h = omega arith

module _ (r : List ℕ) (who : ℕ) (n : Name) where
  pub added : (q : ℕ) (m : Name) → who < 8 → q < 8 → has (with_right who n r) q m ≡ true → (has r q m ≡ true) ⊎ ((who ≡ q) × (n ≡ m))
  unfolding with_right
  added q m h k e = go (bit-set-at r (word_of who n) (word_of q m) (bit_of n) (bit_of m) (sym (has-bit (with_right who n r) q m) ∙ e))
    where
      go : (bit (get_or r (word_of q m) 0) (bit_of m) ≡ true) ⊎ ((word_of who n ≡ word_of q m) × (bit_of n ≡ bit_of m))
          → (has r q m ≡ true) ⊎ ((who ≡ q) × (n ≡ m))
      go (inl b) = inl (has-bit r q m ∙ b)
      go (inr b) = inr (one_place who q n m h k b.0 b.1)

  pub added-kept : (q : ℕ) (m : Name) → has r q m ≡ true → has (with_right who n r) q m ≡ true
  unfolding with_right
  added-kept q m e =
      has-bit (with_right who n r) q m ∙ bit-set-kept r (word_of who n) (word_of q m) (bit_of n) (bit_of m) (sym (has-bit r q m) ∙ e)

  pub added-has : length r ≡ 16 → who < 8 → has (with_right who n r) who n ≡ true
  unfolding with_right
  added-has l h =
      let b : word_of who n < length r = rw l (word_low who n h) in
      has-bit (with_right who n r) who n
      ∙ ap (λ (w : ℕ). bit w (bit_of n)) (get_or-set_same r (word_of who n) (with_bit (get_or r (word_of who n) 0) (bit_of n)) 0 b)
      ∙ bit-self (get_or r (word_of who n) 0) (bit_of n)

-- ---- what an opening accepts

-- 16 words of 64 bits, and no party has bit 63 of its key word
pub record Good (roster : List ℕ) : Type 0 where
  pub sixteen : length roster ≡ 16
  pub words : All (λ w. w < 2 ^ 64) roster
  pub clear : (who : ℕ) → who < 8 → has roster who (key 63) ≡ false

All-set : (P : ℕ → Type 0) (l : List ℕ) (i v : ℕ) → All P l → P v → All P (set l i v)
All-set P [] i v h k = tt
All-set P (x ∷ l) zero v h k = (k, h.1)
All-set P (x ∷ l) (suc i) v h k = (h.0, All-set P l i v h.1 k)

pub good-with : (r : List ℕ) (who : ℕ) (n : Name) → who < 8 → NameInRange n → Good r → Good (with_right who n r)
unfolding with_right
good-with r who n h k g =
    record { sixteen = length-set r i w ∙ g.sixteen; words = All-set (λ w. w < 2 ^ 64) r i w g.words fits; clear = clear }
  where
    i : ℕ
    i = word_of who n

    w : ℕ
    w = with_bit (get_or r i 0) (bit_of n)

    fits : w < 2 ^ 64
    fits = or_lt 64 (get_or r i 0) (2 ^ bit_of n) (All-at (λ w. w < 2 ^ 64) r g.words i (rw g.sixteen (word_low who n h))) (pow-lt (bit-low n k))

    never : (m : Name) → NameInRange m → m ≢ key 63
    never (partition c) l e = let z : ◌≡◌ {A = ℕ} 0 1 = cc in absurd (omega arith)
    never (key s) l e = let z : s ≡ 63 = cc in absurd (omega arith)

    clear : (q : ℕ) → q < 8 → has (with_right who n r) q (key 63) ≡ false
    clear q l = elim (bool (has (with_right who n r) q (key 63))) [ inl e ↦ absurd (not_there (added r who n q (key 63) h l e)) | inr e ↦ e ]
      where
        not_there : (has r q (key 63) ≡ true) ⊎ ((who ≡ q) × (n ≡ key 63)) → ⊥
        not_there (inl e) = clash (has r q (key 63)) e (g.clear q l)
        not_there (inr e) = never n k e.1

all-at : (p : ℕ → Bool) (l : List ℕ) → ((i : ℕ) → i < length l → p (get_or l i 0) ≡ true) → all p l ≡ true
all-at p [] f = refl
all-at p (x ∷ l) f = rw (f 0 (zero-lt-suc (length l))) (all-at p l (λ i h. f (suc i) (suc-le-suc h)))

pub good-accepts : (r : List ℕ) → Good r → Accepts r
unfolding held_in
good-accepts r g = record { words = g.words; good = rw (g.sixteen, clear) }
  where
    clear : all (λ w. not (bit w 63)) (drop 8 r) ≡ true
    clear = all-at (λ w. not (bit w 63)) (drop 8 r) (λ i h. rw (get_or-drop 8 r i 0) (ap not (g.clear i (low i h))))
      where
        low : (i : ℕ) → i < length (drop 8 r) → i < 8
        low i h = let e : length (drop 8 r) ≡ 8 = rw (length-drop 8 r, g.sixteen) in omega arith

pub accepts-good : (r : List ℕ) → Accepts r → Good r
unfolding held_in
accepts-good r a = record { sixteen = sixteen; words = a.words; clear = clear }
  where
    keys : Bool
    keys = all (λ w. not (bit w 63)) (drop 8 r)

    sixteen : length r ≡ 16
    sixteen = eqb-true (length r) 16 (not-false (eqb (length r) 16) (or_left (not (eqb (length r) 16)) (not keys) a.good))

    clear : (who : ℕ) → who < 8 → has r who (key 63) ≡ false
    clear who h =
        let e : keys ≡ true = not-false keys (or_right (not (eqb (length r) 16)) (not keys) a.good) in
        let l : who < length (drop 8 r) = rw (length-drop 8 r, sixteen) h in
        let c = All-at (λ w. not (bit w 63) ≡ true) (drop 8 r) (all_true (λ w. not (bit w 63)) (drop 8 r) e) who l in
        not-true (bit (get_or r (8 + who) 0) 63) (rw (get_or-drop 8 r who 0) at c)

-- ---- a roster is its rights

digit-same : (x y : ℕ) → x < 2 → y < 2 → eqb x 1 ≡ eqb y 1 → x ≡ y
digit-same x y h k e = go (bool (eqb y 1))
  where
    go : (eqb y 1 ≡ true) ⊎ (eqb y 1 ≡ false) → x ≡ y
    go (inl t) = eqb-true x 1 (e ∙ t) ∙ sym (eqb-true y 1 t)
    go (inr t) = let p = eqb-false x 1 (e ∙ t) in let q = eqb-false y 1 t in omega (arith, p, q)

bit-half : (a d : ℕ) → bit a (suc d) ≡ bit (a / 2) d
bit-half a d = let e : a / 2 / 2 ^ d ≡ a / 2 ^ suc d = shr-shr a 1 d ∙ ap (λ (k : ℕ). a / 2 ^ k) (one-add d) in rw e

-- numbers with the same bits
bits-same : (k a b : ℕ) → a < 2 ^ k → b < 2 ^ k → ((d : ℕ) → bit a d ≡ bit b d) → a ≡ b
bits-same zero a b h l e = omega arith
bits-same (suc k) a b h l e =
    let low : a / 1 % 2 ≡ b / 1 % 2 = digit-same (a / 1 % 2) (b / 1 % 2) (omega arith) (omega arith) (e 0) in
    let high : a / 2 ≡ b / 2 = bits-same k (a / 2) (b / 2) (half a h) (half b l) (λ d. sym (bit-half a d) ∙ e (suc d) ∙ bit-half b d) in
    omega arith
  where
    half : (x : ℕ) → x < 2 ^ suc k → x / 2 < 2 ^ k
    half x h = shr_lt k 1 (rw add-one h)

pub same-rights : (r s : List ℕ) → Good r → Good s → ((who : ℕ) (n : Name) → who < 8 → has r who n ≡ has s who n) → r ≡ s
unfolding held_in
same-rights r s g h e = ext_get_or 0 r s (g.sixteen ∙ sym h.sixteen) words
  where
    bits : (i : ℕ) → i < 16 → (d : ℕ) → bit (get_or r i 0) d ≡ bit (get_or s i 0) d
    bits i l d = go (bool (ltb i 8))
      where
        go : (ltb i 8 ≡ true) ⊎ (ltb i 8 ≡ false) → bit (get_or r i 0) d ≡ bit (get_or s i 0) d
        go (inl t) = e i (partition d) (ltb-true i 8 t)
        go (inr t) =
            let k = ltb-false i 8 t in
            let q : 8 + (i - 8) ≡ i = omega arith in
            subst (λ (j : ℕ). bit (get_or r j 0) d ≡ bit (get_or s j 0) d) q (e (i - 8) (key d) (omega arith))

    words : (i : ℕ) → i < length r → get_or r i 0 ≡ get_or s i 0
    words i l =
        let k : i < 16 = rw g.sixteen at l in
        bits-same 64 (get_or r i 0) (get_or s i 0) (All-at (λ w. w < 2 ^ 64) r g.words i l) (All-at (λ w. w < 2 ^ 64) s h.words i (rw h.sixteen k)) (bits i k)
