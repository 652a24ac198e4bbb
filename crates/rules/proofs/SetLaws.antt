-- Sets of partitions: the bits of a word as a list, sets that share one, and both tests of sets as the code makes them.
use mathlib.Core.Path.{◌≡◌, refl, sym, ap, ap₂, ◌∙◌}
use mathlib.Core.Logic.{◌⊎◌, inl, inr}
use mathlib.Core.Bool.{Bool, true, false, not, ◌&&◌, true≢false, false≢true}
use mathlib.Core.List.{map}
use Prim.Native.Nat.{ℕ, zero, suc, ◌+◌, ◌*◌, ◌/◌, ◌%◌, ◌^◌, ◌≤◌, ◌<◌, min}
use native.Mathlib.Nat.{mod-lt, zero-lt-suc, lt_of_le_of_lt, div-add-mod', div-one, zero-min, min-le_left}
use native.Mathlib.Numerals.{add-one}
use native.Mathlib.Omega.{arith}
use lib.Dec.{eqb}
use lib.Arith.{digits_mod, lt-one}
use lib.Pow.{shr-shr, shr_lt}
use lib.Bits.{bit_and, and_step, and_shr, and_le_l}
use Rattle.rules.specs.Lists.{all, any, In, from}
use Rattle.rules.specs.Names.{Name, partition, bit, bits_in}
use Rattle.rules.specs.Partitions.{set_names, sets_agree, sets}
use Rattle.rules.specs.State.{holds}
use Rattle.rules.specs.Claims.{Iff, Shared, SetHeld}
use Rattle.rules.proofs.BitLaws.{eqb-true, eqb_same, zero_bit}
use Rattle.rules.proofs.ListLaws.{bool, clash, and_right, all_true, all_of}
use Rattle.rules.proofs.Loops.{all-mapped}
use Rattle.rules.proofs.Members.{in-keep, keep-in, in-from, from_in, in_map, any-in, in-any, All-in, All-at-in}

-- ---- the bits of a word

pub in-bits : (w c : ℕ) → c < 64 → bit w c ≡ true → In c (bits_in w)
unfolding bits_in
in-bits w c h e = in-keep (bit w) c (from 0 64) (in-from c 0 64 (omega arith) h) e

pub bits_in_lem : (w c : ℕ) → In c (bits_in w) → (c < 64) × (bit w c ≡ true)
unfolding bits_in
bits_in_lem w c h = let k = keep-in (bit w) c (from 0 64) h in (from_in c 0 64 k.0, k.1)

-- ---- sets that share a partition

pub sets-agree : (t e : ℕ) → Iff (sets_agree t e ≡ true) (Shared t e)
unfolding sets_agree
sets-agree t e = (there, λ s. in-any (bit e) s.common (bits_in t) (in-bits t s.common (omega (arith, s.is_partition)) s.in_template) s.in_entry)
  where
    there : any (bit e) (bits_in t) ≡ true → Shared t e
    there h =
        let k = any-in (bit e) (bits_in t) h in
        let b = bits_in_lem t k.0 k.1.0 in
        record { common = k.0; is_partition = omega (arith, b.0); in_template = b.1; in_entry = k.1.1 }

-- a name of two sets
pub record SharedName (a b : ℕ) : Type 0 where
  pub shared : Name
  pub in_one : In shared (sets.names a)
  pub in_other : In shared (sets.names b)

pub turned : {a b : ℕ} → SharedName a b → SharedName b a
turned q = record { shared = q.shared; in_one = q.in_other; in_other = q.in_one }

pub agree-shared : (t e : ℕ) → sets.agree t e ≡ true → SharedName t e
unfolding set_names
agree-shared t e h =
    let s : Shared t e = (sets-agree t e).0 h in
    let l : s.common < 64 = omega (arith, s.is_partition) in
    record {
      shared = partition s.common;
      in_one = in_map partition s.common (bits_in t) (in-bits t s.common l s.in_template);
      in_other = in_map partition s.common (bits_in e) (in-bits e s.common l s.in_entry);
    }

-- ---- words, bit by bit

-- words of n bits with the same bits are the same
same_bits : (n a b : ℕ) → a < 2 ^ n → b < 2 ^ n → ((c : ℕ) → c < n → a / 2 ^ c % 2 ≡ b / 2 ^ c % 2) → a ≡ b
same_bits zero a b h k f = lt-one h ∙ sym (lt-one k)
same_bits (suc n) a b h k f =
    let halves : a / 2 ≡ b / 2 =
    same_bits n (a / 2) (b / 2) (shr_lt n 1 (rw add-one h)) (shr_lt n 1 (rw add-one k))
    (λ c l. rw (shr-shr a 1 c, shr-shr b 1 c) (f (1 + c) (omega arith))) in
    let lowest : a % 2 ≡ b % 2 = rw (div-one a, div-one b) at (f 0 (zero-lt-suc n)) in
    sym (div-add-mod' a 2) ∙ ap₂ (λ (x y : ℕ). x * 2 + y) halves lowest ∙ div-add-mod' b 2

min-lt2 : (a b : ℕ) → a < 2 → min a b < 2
min-lt2 a b h = lt_of_le_of_lt (min-le_left a b) h

and-digit : (a b c : ℕ) → bit_and a b / 2 ^ c % 2 ≡ min (a / 2 ^ c % 2) (b / 2 ^ c % 2)
and-digit a b c =
    let x : ℕ = a / 2 ^ c in
    let y : ℕ = b / 2 ^ c in
    ap (λ (w : ℕ). w % 2) (and_shr a b c ∙ and_step x y)
    ∙ digits_mod (bit_and (x / 2) (y / 2)) (min-lt2 (x % 2) (y % 2) (mod-lt x (zero-lt-suc 1)))

-- the bit of both
pub and-bit : (a b c : ℕ) → bit (bit_and a b) c ≡ (bit a c && bit b c)
and-bit a b c = rw (and-digit a b c) (go (a / 2 ^ c % 2) (b / 2 ^ c % 2) (mod-lt (a / 2 ^ c) (zero-lt-suc 1)) (mod-lt (b / 2 ^ c) (zero-lt-suc 1)))
  where
    go : (x y : ℕ) → x < 2 → y < 2 → eqb (min x y) 1 ≡ (eqb x 1 && eqb y 1)
    go zero y h k = rw (zero-min y) refl
    go (suc zero) zero h k = refl
    go (suc zero) (suc zero) h k = refl
    go (suc zero) (suc (suc y)) h k = absurd (omega arith)
    go (suc (suc x)) y h k = absurd (omega arith)

-- tests that hold of each other are one test
pub same_truth : (a b : Bool) → (a ≡ true → b ≡ true) → (b ≡ true → a ≡ true) → a ≡ b
same_truth true b f h = sym (f refl)
same_truth false true f h = h refl
same_truth false false f h = refl

digit-of : (w v c : ℕ) → bit w c ≡ bit v c → w / 2 ^ c % 2 ≡ v / 2 ^ c % 2
digit-of w v c = go (w / 2 ^ c % 2) (v / 2 ^ c % 2) (mod-lt (w / 2 ^ c) (zero-lt-suc 1)) (mod-lt (v / 2 ^ c) (zero-lt-suc 1))
  where
    go : (x y : ℕ) → x < 2 → y < 2 → eqb x 1 ≡ eqb y 1 → x ≡ y
    go zero zero h k e = refl
    go zero (suc zero) h k e = absurd (false≢true e)
    go (suc zero) zero h k e = absurd (true≢false e)
    go (suc zero) (suc zero) h k e = refl
    go zero (suc (suc y)) h k e = absurd (omega arith)
    go (suc zero) (suc (suc y)) h k e = absurd (omega arith)
    go (suc (suc x)) y h k e = absurd (omega arith)

and_word : (a b : ℕ) → a < 2 ^ 64 → bit_and a b < 2 ^ 64
and_word a b h = lt_of_le_of_lt (and_le_l a b) h

-- every bit of a word that the two don't share is clear in both
apart-bits : (a b : ℕ) → a < 2 ^ 64 → ((c : ℕ) → c < 64 → bit a c ≡ true → bit b c ≡ false) → bit_and a b ≡ 0
apart-bits a b h f = same_bits 64 (bit_and a b) 0 (and_word a b h) (omega arith) (λ c l. digit-of (bit_and a b) 0 c (rw (and-bit a b c, zero_bit c) (go c l (bool (bit a c)))))
  where
    go : (c : ℕ) → c < 64 → (bit a c ≡ true) ⊎ (bit a c ≡ false) → (bit a c && bit b c) ≡ false
    go c l (inl e) = rw (e, f c l e) refl
    go c l (inr e) = rw e refl

-- a word without a bit is 0
pub no_bits : (w : ℕ) → w < 2 ^ 64 → ((c : ℕ) → c < 64 → bit w c ≡ false) → w ≡ 0
no_bits w h f = same_bits 64 w 0 h (omega arith) (λ c l. digit-of w 0 c (f c l ∙ sym (zero_bit c)))

-- M3: the sets share a partition exactly if their words have a bit in common
pub agree-and : (t e : ℕ) → t < 2 ^ 64 → not (eqb (bit_and t e) 0) ≡ sets_agree t e
agree-and t e h = same_truth (not (eqb (bit_and t e) 0)) (sets_agree t e) there back-again
  where
    missed : sets_agree t e ≡ false → (c : ℕ) → c < 64 → bit t c ≡ true → bit e c ≡ false
    missed n c l b = elim (bool (bit e c)) [ inl k ↦ clash (sets_agree t e) ((sets-agree t e).1 (record { common = c; is_partition = omega arith; in_template = b; in_entry = k })) n | inr k ↦ k ]

    there : not (eqb (bit_and t e) 0) ≡ true → sets_agree t e ≡ true
    there n = elim (bool (sets_agree t e)) [ inl k ↦ k | inr k ↦ absurd (false≢true (rw (apart-bits t e h (missed k)) at n)) ]

    back-again : sets_agree t e ≡ true → not (eqb (bit_and t e) 0) ≡ true
    back-again a = go ((sets-agree t e).0 a) (bool (eqb (bit_and t e) 0))
      where
        go : Shared t e → (eqb (bit_and t e) 0 ≡ true) ⊎ (eqb (bit_and t e) 0 ≡ false) → not (eqb (bit_and t e) 0) ≡ true
        go s (inl k) =
            let z : bit 0 s.common ≡ true = rw (← (eqb-true (bit_and t e) 0 k), and-bit t e s.common, s.in_template, s.in_entry) refl in
            clash (bit 0 s.common) z (zero_bit s.common)
        go s (inr k) = rw k refl

-- R13: every partition of the set is held exactly if the set is what it has in common with what is held
pub held-and : (set held : ℕ) → set < 2 ^ 64 → eqb (bit_and set held) set ≡ all (bit held) (bits_in set)
held-and set held h = same_truth (eqb (bit_and set held) set) (all (bit held) (bits_in set)) there back-again
  where
    there : eqb (bit_and set held) set ≡ true → all (bit held) (bits_in set) ≡ true
    there n = all_of (bit held) (bits_in set) (All-in (λ c. bit held c ≡ true) (bits_in set) each-held)
      where
        each-held : (c : ℕ) → In c (bits_in set) → bit held c ≡ true
        each-held c i =
            let b : bit set c ≡ true = (bits_in_lem set c i).1 in
            let k : (bit set c && bit held c) ≡ true = sym (and-bit set held c) ∙ ap (λ (w : ℕ). bit w c) (eqb-true (bit_and set held) set n) ∙ b in
            and_right (bit set c) (bit held c) k

    back-again : all (bit held) (bits_in set) ≡ true → eqb (bit_and set held) set ≡ true
    back-again a = rw (same_bits 64 (bit_and set held) set (and_word set held h) h (λ c l. digit-of (bit_and set held) set c (and-bit set held c ∙ go c l (bool (bit set c))))) (eqb_same set)
      where
        go : (c : ℕ) → c < 64 → (bit set c ≡ true) ⊎ (bit set c ≡ false) → (bit set c && bit held c) ≡ bit set c
        go c l (inl e) = rw (e, All-at-in (λ c. bit held c ≡ true) c (bits_in set) (all_true (bit held) (bits_in set) a) (in-bits set c l e)) refl
        go c l (inr e) = rw e refl

-- ---- the names of a set

pub set-held : SetHeld
unfolding set_names
set-held s who set = (there, λ f. all-mapped (holds s who) partition (bits_in set) ∙ all_of (λ c. holds s who (partition c)) (bits_in set) (All-in (λ c. holds s who (partition c) ≡ true) (bits_in set) (each f)))
  where
    there : all (holds s who) (map partition (bits_in set)) ≡ true → (c : ℕ) → c ≤ 63 → bit set c ≡ true → holds s who (partition c) ≡ true
    there h c l b =
        All-at-in (λ c. holds s who (partition c) ≡ true) c (bits_in set)
        (all_true (λ c. holds s who (partition c)) (bits_in set) (sym (all-mapped (holds s who) partition (bits_in set)) ∙ h)) (in-bits set c (omega arith) b)

    each : ((c : ℕ) → c ≤ 63 → bit set c ≡ true → holds s who (partition c) ≡ true) → (c : ℕ) → In c (bits_in set) → holds s who (partition c) ≡ true
    each f c i = let b = bits_in_lem set c i in f c (omega (arith, b.0)) b.1
