-- Rows of zeros, by the bits of several words, gathered by `|`.
use mathlib.Core.Path.{◌≡◌, refl, sym, ◌∙◌}
use mathlib.Core.Bool.{false, ◌&&◌, and-true, and_assoc}
use mathlib.Core.List.{List}
use Prim.Native.Nat.{ℕ, zero, suc, ◌+◌, ◌≤◌, ◌<◌}
use native.Mathlib.Omega.{arith}
use borrow.Author.Tests.{ne_eqb}
use lib.Bits.{bit_or, bit_and, or_add_and, and_le_r}
use lib.ListN.{length, get_or, drop, length-drop}
use Rattle.rules.specs.Lists.{all}
use Rattle.rules.specs.Words.{is_zero}
use Rattle.rules.proofs.Loops.{all-next, all_end}

-- two words gathered are 0 exactly where both are
or-zero : (a b : ℕ) → is_zero (bit_or a b) ≡ (is_zero a && is_zero b)
or-zero zero b = refl
or-zero (suc a) b =
    let sum : bit_or (suc a) b + bit_and (suc a) b ≡ suc a + b = or_add_and (suc a) b in
    let part : bit_and (suc a) b ≤ b = and_le_r (suc a) b in
    ne_eqb (bit_or (suc a) b) 0 (λ e. omega arith) ∙ rw (ne_eqb (suc a) 0 (λ e. omega arith))

-- word s, with the k words after it gathered to it
abbrev gathered : List ℕ → ℕ → ℕ → ℕ
gathered l s zero = get_or l s 0
gathered l s (suc k) = bit_or (gathered l s k) (get_or l (s + suc k) 0)

-- that word and those past the gathered ones decide as all from s on do
gathered-decides : (l : List ℕ) (s k : ℕ) → s + k < length l → (is_zero (gathered l s k) && all is_zero (drop (s + suc k) l)) ≡ all is_zero (drop s l)
gathered-decides l s zero h = sym (all-next is_zero l s (omega arith))
gathered-decides l s (suc k) h =
    let next : s + suc (suc k) ≡ s + suc k + 1 = omega arith in
    rw (next, or-zero (gathered l s k) (get_or l (s + suc k) 0), and_assoc, ← (all-next is_zero l (s + suc k) h)) (gathered-decides l s k (omega arith))

-- a row of 14 words: the first two decide where they are not 0, and else the other twelve
module _ (l : List ℕ) (len : length l ≡ 14) where
  pub two-decide : (bit_or (get_or l 0 0) (get_or l 1 0) ≡ 0 → ⊥) → false ≡ all is_zero l
  two-decide e = rw (ne_eqb (bit_or (get_or l 0 0) (get_or l 1 0)) 0 e) at (gathered-decides l 0 1 (omega arith))

  pub twelve-decide : bit_or (get_or l 0 0) (get_or l 1 0) ≡ 0 → is_zero (gathered l 2 11) ≡ all is_zero l
  twelve-decide e =
      sym (and-true (is_zero (gathered l 2 11)))
      ∙ (rw (all_end is_zero (drop 14 l) 0 (simp length-drop (omega arith))) at (gathered-decides l 2 11 (omega arith)))
      ∙ (rw e at (gathered-decides l 0 1 (omega arith)))
