-- No text reads as the empty set, and every other set reads back from its text.
use Prim.Native.Nat.{ℕ, zero, suc, ◌+◌, ◌*◌, ◌/◌, ◌%◌, ◌^◌, ◌≤◌, ◌<◌}
use mathlib.Core.Path.{◌≡◌, refl, sym, ap, ◌∙◌}
use mathlib.Core.Logic.{◌⊎◌, inl, inr}
use mathlib.Core.Bool.{true, false}
use mathlib.Core.List.{List, [], ◌∷◌, ◌++◌, map, append-nil}
use mathlib.Core.Option.{Option, none, some}
use native.Mathlib.Nat.{zero-add, one-mul, mod-lt, mod-eq_of_lt}
use native.Mathlib.Numerals.{one-add}
use native.Mathlib.Omega.{arith}
use borrow.Author.Tests.{le-leb, eqb-true, eqb-false}
use lib.Bits.{bit_or, or_shifted_r}
use lib.Pow.{pow_pos, mod-pow-add}
use Rattle.rules.specs.Lists.{keep, from}
use Rattle.rules.specs.Names.{bit, bits_in, with_bit}
use Rattle.rules.proofs.ListLaws.{bool, clash}
use Rattle.rules.proofs.BitLaws.{zero_bit, bit_kept, bit-self}
use Rattle.numbers.specs.Numbers.{decimal}
use Rattle.numbers.specs.Parts.{before, beyond, parts}
use Rattle.numbers.proofs.NumbersBack.{natural-back, decimal-free, part_then, part-last}
use Rattle.text.specs.Partitions.{partition_from, and_then, set_from, read_partitions, more_text, partitions_text, set_text}
use Rattle.text.specs.Claims.{NoEmptySet, EachSetWritten}

-- ---- no empty set

-- the set so far is kept
kept : (ps : List (List ℕ)) (least so_far set c : ℕ) → set_from least so_far ps ≡ some set → bit so_far c ≡ true → bit set c ≡ true
kept [] least so_far set c e h = let q : so_far ≡ set = cc in rw (← q) h
kept (p ∷ ps) least so_far set c e h = go (partition_from least p) (λ l s. kept ps l s set c) e
  where
    go : (o : Option ℕ) → ((l s : ℕ) → set_from l s ps ≡ some set → bit s c ≡ true → bit set c ≡ true)
        → and_then o (λ d. set_from (suc d) (with_bit so_far d) ps) ≡ some set → bit set c ≡ true
    go none r q = let z : ◌≡◌ {A = ℕ} 0 1 = cc in absurd (omega arith)
    go (some d) r q = r (suc d) (with_bit so_far d) q (bit_kept so_far d c h)

pub no-empty-set : NoEmptySet
unfolding read_partitions
no-empty-set text e = go (partition_from 0 (before 58 text)) e
  where
    go : (o : Option ℕ) → and_then o (λ c. set_from (suc c) (with_bit 0 c) (beyond 58 text)) ≡ some 0 → ⊥
    go none q = let z : ◌≡◌ {A = ℕ} 0 1 = cc in omega arith
    go (some c) q = clash (bit 0 c) (kept (beyond 58 text) (suc c) (with_bit 0 c) 0 c q (bit-self 0 c)) (zero_bit c)

-- ---- each set written

parts-back : (c : ℕ) (cs : List ℕ) → parts 58 (partitions_text (c ∷ cs)) ≡ map decimal (c ∷ cs)
parts-back c [] = ap (parts 58) (append-nil (decimal c)) ∙ part-last 58 (decimal c) (decimal-free 58 refl c)
parts-back c (d ∷ ds) =
    part_then 58 (decimal c) (decimal d ++ more_text ds) (decimal-free 58 refl c)
    ∙ ap (λ (ps : List (List ℕ)). decimal c ∷ ps) (parts-back d ds)

partition-back : (least c : ℕ) → least ≤ c → c ≤ 63 → partition_from least (decimal c) ≡ some c
partition-back least c l h = rw (natural-back c) (rw (le-leb c 63 h) (rw (le-leb least c l)))

-- the bits of a word below i, and bit i with them
module _ (w i : ℕ) where
  low : (d : ℕ) → w / 2 ^ i % 2 ≡ d → w % 2 ^ suc i ≡ d * 2 ^ i + w % 2 ^ i
  low d e = rw (← one-add i) (mod-pow-add w 1 i ∙ ap (λ (x : ℕ). x * 2 ^ i + w % 2 ^ i) e)

  with-low : bit w i ≡ true → with_bit (w % 2 ^ i) i ≡ w % 2 ^ suc i
  with-low h =
      ap (bit_or (w % 2 ^ i)) (sym (one-mul (2 ^ i))) ∙ or_shifted_r 1 i (w % 2 ^ i) (mod-lt w (pow_pos i))
      ∙ sym (low 1 (eqb-true (w / 2 ^ i % 2) 1 h))

  without-low : bit w i ≡ false → w % 2 ^ i ≡ w % 2 ^ suc i
  without-low h = let n = eqb-false (w / 2 ^ i % 2) 1 h in let e = low 0 (omega (arith, n)) in omega (arith, e)

-- of n bits from i on, with the bits below i in the set already
bits_back : (w n i least : ℕ) → i + n ≤ 64 → least ≤ i
    → set_from least (w % 2 ^ i) (map decimal (keep (bit w) (from i n))) ≡ some (w % 2 ^ (i + n))
bits_back w zero i least h l = let e : i + 0 ≡ i = omega arith in rw e
bits_back w (suc n) i least h l = go (bool (bit w i)) (bits_back w n (suc i))
  where
    go : (bit w i ≡ true) ⊎ (bit w i ≡ false)
        → ((l : ℕ) → suc i + n ≤ 64 → l ≤ suc i → set_from l (w % 2 ^ suc i) (map decimal (keep (bit w) (from (suc i) n))) ≡ some (w % 2 ^ (suc i + n)))
        → set_from least (w % 2 ^ i) (map decimal (keep (bit w) (from i (suc n)))) ≡ some (w % 2 ^ (i + suc n))
    go (inl t) r =
        let e : i + suc n ≡ suc i + n = omega arith in
        rw (t, e) (rw (partition-back least i l (omega arith)) (rw (with-low w i t) (r (suc i) (omega arith) (omega arith))))
    go (inr t) r = let e : i + suc n ≡ suc i + n = omega arith in rw (t, e, without-low w i t) (r least (omega arith) (omega arith))

from-none : (w n : ℕ) → n ≤ 64 → set_from 0 0 (map decimal (keep (bit w) (from 0 n))) ≡ some (w % 2 ^ n)
from-none w n h = let e : w % 1 ≡ 0 = omega arith in rw (e, zero-add n) at (bits_back w n 0 0 (omega arith) (omega arith))

set_back : (set : ℕ) → set < 2 ^ 64 → set_from 0 0 (map decimal (bits_in set)) ≡ some set
unfolding bits_in
set_back set h = from-none set 64 (omega arith) ∙ ap some (mod-eq_of_lt h)

pub each-set-written : EachSetWritten
unfolding read_partitions set_text
each-set-written set n h = go (bits_in set) (set_back set h)
  where
    go : (cs : List ℕ) → set_from 0 0 (map decimal cs) ≡ some set → read_partitions (partitions_text cs) ≡ some set
    go [] e = let q : 0 ≡ set = cc in absurd (n (sym q))
    go (c ∷ cs) e = ap (set_from 0 0) (parts-back c cs) ∙ e
