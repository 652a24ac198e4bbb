-- Stored keys as text, by their sign, and how many bytes numbers take.
use Prim.Native.Nat.{ℕ, zero, suc, ◌-◌, ◌*◌, ◌/◌, ◌^◌, ◌≤◌, ◌<◌}
use mathlib.Core.Path.{◌≡◌, refl, ap}
use mathlib.Core.Logic.{◌⊎◌, inl, inr}
use mathlib.Core.Bool.{true, false}
use mathlib.Core.List.{[], ◌∷◌}
use native.Mathlib.Nat.{pow-succ'}
use native.Mathlib.Omega.{arith}
use borrow.Author.Tests.{le-leb, lt-ltb, le-ltb, ltb-true, ltb-false}
use lib.Dec.{ltb}
use lib.IntN.{ℤ, pos, negsuc}
use lib.ListN.{length, length-append}
use Rattle.rules.specs.Names.{key_in_range, stored}
use Rattle.rules.proofs.ListLaws.{bool}
use Rattle.rules.proofs.KeyLaws.{neg-le, pos-le}
use Rattle.numbers.specs.Numbers.{decimal, decimal_key, key_of, refusal_text}
use Rattle.numbers.specs.Answers.{fits}
use Rattle.numbers.proofs.Decimal.{decimal-small, more-length}

pub key-up : (s : ℕ) → 31 ≤ s → decimal_key (key_of s) ≡ decimal (s - 31)
key-up s h = rw (le-ltb s 31 h)

pub key-down : (s : ℕ) → s < 31 → decimal_key (key_of s) ≡ 45 ∷ decimal (31 - s)
key-down s h = let e : suc (31 - suc s) ≡ 31 - s = omega arith in rw (lt-ltb s 31 h) (ap (λ (n : ℕ). 45 ∷ decimal n) e)

-- a stored key is a key in range, and that key is stored so
pub key-of : (s : ℕ) → s < 63 → (key_in_range (key_of s) ≡ true) × (stored (key_of s) ≡ s)
key-of s h = go (bool (ltb s 31))
  where
    go : (ltb s 31 ≡ true) ⊎ (ltb s 31 ≡ false) → (key_in_range (key_of s) ≡ true) × (stored (key_of s) ≡ s)
    go (inl e) = let l = ltb-true s 31 e in rw e (rw (le-leb (31 - suc s) 30 (omega arith)) refl, rw (le-ltb 31 (suc (31 - suc s)) (omega arith)) (omega arith))
    go (inr e) = let l = ltb-false s 31 e in rw e (le-leb (s - 31) 31 (omega arith), (omega arith))

-- 32 bits hold it
pub key_fits : (k : ℤ) → key_in_range k ≡ true → fits k ≡ true
key_fits (pos v) h = let l = pos-le v h in le-leb v 2147483647 (omega arith)
key_fits (negsuc v) h = let l = neg-le v h in rw (le-leb v 2147483647 (omega arith))

-- ---- how many bytes they take

-- a number below ten times a power of ten
pub decimal-short : (k v : ℕ) → v < 10 * 10 ^ k → length (decimal v) ≤ suc k
decimal-short zero v h = let e : length (decimal v) ≡ 1 = rw (decimal-small v h) in omega arith
decimal-short (suc k) v h = go (bool (ltb v 10)) (decimal-short k (v / 10))
  where
    go : (ltb v 10 ≡ true) ⊎ (ltb v 10 ≡ false) → (v / 10 < 10 * 10 ^ k → length (decimal (v / 10)) ≤ suc k) → length (decimal v) ≤ suc (suc k)
    go (inl e) r = let q : length (decimal v) ≡ 1 = rw (decimal-small v (ltb-true v 10 e)) in omega arith
    go (inr e) r =
        let p : 10 ^ suc k ≡ 10 * 10 ^ k = pow-succ' 10 k in
        let q = more-length v (ltb-false v 10 e) in
        let s : length (decimal (v / 10)) ≤ suc k = r (omega arith) in omega arith

pub key-short : (s : ℕ) → s < 64 → length (decimal_key (key_of s)) ≤ 3
key-short s h = go (bool (ltb s 31))
  where
    go : (ltb s 31 ≡ true) ⊎ (ltb s 31 ≡ false) → length (decimal_key (key_of s)) ≤ 3
    go (inl e) = let l = decimal-short 1 (31 - s) (omega arith) in rw (key-down s (ltb-true s 31 e)) (omega arith)
    go (inr e) = let l = decimal-short 1 (s - 31) (omega arith) in rw (key-up s (ltb-false s 31 e)) (omega arith)

-- `no`, at most two digits and a line feed
pub refusal-short : (n : ℕ) → n ≤ 99 → length (refusal_text n) ≤ 5
unfolding refusal_text
refusal-short n h =
    let d = decimal-short 1 n (omega arith) in
    let e = length-append (decimal n) (10 ∷ []) in
    omega arith
