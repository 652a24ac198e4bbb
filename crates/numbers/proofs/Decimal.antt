-- The decimal digits of a number: the last digit, and the digits of a tenth before it.
use Prim.Native.Nat.{ℕ, zero, suc, ◌+◌, ◌/◌, ◌%◌, ◌≤◌, ◌<◌}
use mathlib.Core.Path.{◌≡◌, ap, ◌∙◌}
use mathlib.Core.Logic.{◌⊎◌, inl, inr}
use mathlib.Core.Bool.{true, false}
use mathlib.Core.List.{List, [], ◌∷◌, ◌++◌}
use native.Mathlib.Omega.{arith}
use borrow.Author.Tests.{lt-ltb, le-ltb, ltb-true, ltb-false}
use lib.Dec.{ltb}
use Rattle.rules.proofs.ListLaws.{bool}
use lib.ListN.{length, set, length-append}
use Rattle.numbers.specs.Numbers.{digits, decimal}
use Rattle.numbers.specs.Written.{Written}
use Rattle.numbers.proofs.Placing.{length-placed, written_byte, written_on}

pub tenth-less : (v : ℕ) → 10 ≤ v → v / 10 < v
tenth-less v h = omega arith

-- any two numbers of steps above v give the same digits
digits_same : (k j v : ℕ) → v < k → v < j → digits k v ≡ digits j v
unfolding digits
digits_same zero j v h l = absurd (omega arith)
digits_same (suc k) zero v h l = absurd (omega arith)
digits_same (suc k) (suc j) v h l = go (bool (ltb v 10)) (digits_same k j (v / 10))
  where
    go : (ltb v 10 ≡ true) ⊎ (ltb v 10 ≡ false) → (v / 10 < k → v / 10 < j → digits k (v / 10) ≡ digits j (v / 10)) → digits (suc k) v ≡ digits (suc j) v
    go (inl e) r = rw e
    go (inr e) r =
        let t = tenth-less v (ltb-false v 10 e) in
        rw (e, r (omega arith) (omega arith))

pub decimal-small : (v : ℕ) → v < 10 → decimal v ≡ (48 + v) ∷ []
unfolding decimal digits
decimal-small v h = rw (lt-ltb v 10 h)

pub decimal-more : (v : ℕ) → 10 ≤ v → decimal v ≡ decimal (v / 10) ++ ((48 + v % 10) ∷ [])
unfolding decimal digits
decimal-more v h =
    let t = tenth-less v h in
    let e : digits v (v / 10) ≡ digits (suc (v / 10)) (v / 10) = digits_same v (suc (v / 10)) (v / 10) t (omega arith) in
    rw (le-ltb v 10 h) (ap (λ (l : List ℕ). l ++ ((48 + v % 10) ∷ [])) e)

-- what holds of the digits, and of a number where it holds of its tenth, holds of every number
pub by-tenths : (P : ℕ → Type 0) → ((v : ℕ) → v < 10 → P v) → ((v : ℕ) → 10 ≤ v → P (v / 10) → P v) → (v : ℕ) → P v
by-tenths P small more v = within (suc v) v (omega arith)
  where
    within : (steps w : ℕ) → w < steps → P w
    within zero w h = absurd (omega arith)
    within (suc steps) w h = go (bool (ltb w 10)) (within steps (w / 10))
      where
        go : (ltb w 10 ≡ true) ⊎ (ltb w 10 ≡ false) → (w / 10 < steps → P (w / 10)) → P w
        go (inl e) r = small w (ltb-true w 10 e)
        go (inr e) r = let t = tenth-less w (ltb-false w 10 e) in more w (ltb-false w 10 e) (r (omega arith))

-- ---- how the digits are written

pub small-room : (v at n : ℕ) → v < 10 → at + length (decimal v) ≤ n → at < n
small-room v at n h room = let e : length (decimal v) ≡ 1 = rw (decimal-small v h) in omega arith

pub more-length : (v : ℕ) → 10 ≤ v → length (decimal v) ≡ length (decimal (v / 10)) + 1
more-length v h = rw (decimal-more v h) (length-append (decimal (v / 10)) ((48 + v % 10) ∷ []))

pub written_small : (v : ℕ) (out : List ℕ) (at : ℕ) → v < 10 → at + length (decimal v) ≤ length out → Written out at (decimal v) (set out at (48 + v)) (at + 1)
written_small v out at h room = rw (decimal-small v h) (written_byte out at (48 + v) (small-room v at (length out) h room))

module _ (v : ℕ) (out : List ℕ) (at : ℕ) (h : 10 ≤ v) (room : at + length (decimal v) ≤ length out) where
  pub tenth-room : at + length (decimal (v / 10)) ≤ length out
  tenth-room = let e = more-length v h in omega arith

  module _ (mid : List ℕ) (end : ℕ) (w : Written out at (decimal (v / 10)) mid end) where
    pub last-room : end < length mid
    last-room =
        let e = more-length v h in
        let l : length mid ≡ length out = ap length w.bytes ∙ length-placed out at (decimal (v / 10)) tenth-room in
        omega (arith, w.ends)

    pub written-more : Written out at (decimal v) (set mid end (48 + v % 10)) (end + 1)
    written-more = rw (decimal-more v h) (written_on tenth-room w (written_byte mid end (48 + v % 10) last-room))
