-- Keys from -31 to 31: the stored key is key + 31 and at most 62, and the co-key is in range and stored as 62 less.
use Prim.Native.Nat.{ℕ, zero, suc, ◌≤◌}
use mathlib.Core.Path.{◌≡◌, refl, sym, ◌∙◌}
use mathlib.Core.Bool.{true, false, not, and-true}
use native.Mathlib.Omega.{arith}
use borrow.Author.Tests.{leb-true, le-ltb, le-leb}
use lib.Dec.{leb}
use lib.IntN.{ℤ, pos, negsuc, ◌+ℤ◌}
use Rattle.rules.specs.Names.{key_in_range, stored, co_key, co_stored}
use Rattle.rules.specs.Partitions.{sets}
use Rattle.rules.specs.Matching.{Pair}
use Rattle.rules.specs.Calls.{bad_pair}
use Rattle.rules.proofs.ListLaws.{or_right, not-false}

pub neg-le : (n : ℕ) → key_in_range (negsuc n) ≡ true → n ≤ 30
neg-le n h = leb-true n 30 (sym (and-true (leb n 30)) ∙ h)

pub pos-le : (n : ℕ) → key_in_range (pos n) ≡ true → n ≤ 31
pos-le n h = leb-true n 31 h

pub shifted : (k : ℤ) → key_in_range k ≡ true → k +ℤ pos 31 ≡ pos (stored k)
shifted (pos n) h = refl
shifted (negsuc n) h = let l = neg-le n h in simp (le-ltb 31 (suc n) (omega arith))

pub stored-le : (k : ℤ) → key_in_range k ≡ true → stored k ≤ 62
stored-le (pos n) h = let l = pos-le n h in omega arith
stored-le (negsuc n) h = let l = neg-le n h in simp (le-ltb 31 (suc n) (omega arith)) (omega arith)

pub co-in-range : (k : ℤ) → key_in_range k ≡ true → key_in_range (co_key k) ≡ true
co-in-range (pos zero) h = refl
co-in-range (pos (suc n)) h = let l = pos-le (suc n) h in simp (le-leb n 30 (omega arith))
co-in-range (negsuc n) h = let l = neg-le n h in le-leb (suc n) 31 (omega arith)

pub co-stored : (k : ℤ) → key_in_range k ≡ true → co_stored (stored k) ≡ stored (co_key k)
co-stored (pos zero) h = refl
co-stored (pos (suc n)) h = let l = pos-le (suc n) h in simp (le-ltb 31 (suc n) (omega arith)) (omega arith)
co-stored (negsuc n) h = let l = neg-le n h in simp (le-ltb 31 (suc n) (omega arith)) (omega arith)

-- the co-key's co-key
pub co-co : (k : ℤ) → key_in_range k ≡ true → co_stored (stored (co_key k)) ≡ stored k
co-co k h = let l = stored-le k h in let e = co-stored k h in omega arith

-- a pair that is not turned away has its key in range
pub pair-in-range : (p : Pair ℤ) → bad_pair sets p ≡ false → key_in_range p.key ≡ true
pair-in-range p h = not-false (key_in_range p.key) (or_right (not (sets.in_range p.partitions)) (not (key_in_range p.key)) h)
