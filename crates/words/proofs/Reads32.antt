-- What the machine's 32 bits hold of a key in range, of key + 31 and of 0 - key.
use mathlib.Core.Path.{◌≡◌, sym, ap, ◌∙◌, subst}
use mathlib.Core.Bool.{true}
use native.Mathlib.Omega.{arith}
use lib.IntN.{ℤ, pos, negsuc, ◌+ℤ◌, neg_ℤ, +ℤ_idl}
use mir.Syntax.{w32}
use mir.Val.{SFits, to_z, of_z}
use mir.Facts.{to_z-of_z}
use Rattle.rules.specs.Names.{key_in_range, stored}
use Rattle.rules.proofs.KeyLaws.{neg-le, pos-le, shifted, stored-le, co-in-range}

pub key_fits : (k : ℤ) → key_in_range k ≡ true → SFits w32 k
key_fits (pos n) h = let l = pos-le n h in record { sfits = omega arith }
key_fits (negsuc n) h = let l = neg-le n h in record { sfits = omega arith }

pub shift_fits : (k : ℤ) → key_in_range k ≡ true → SFits w32 (k +ℤ pos 31)
shift_fits k h = let l = stored-le k h in subst (SFits w32) (sym (shifted k h)) (record { sfits = omega arith })

pub read-shift : (k : ℤ) → key_in_range k ≡ true → to_z w32 (of_z w32 (k +ℤ pos 31)) ≡ pos (stored k)
read-shift k h = to_z-of_z (shift_fits k h) ∙ shifted k h

pub read-neg : (k : ℤ) → key_in_range k ≡ true → to_z w32 (of_z w32 (pos 0 +ℤ neg_ℤ k)) ≡ neg_ℤ k
read-neg k h = ap (λ (z : ℤ). to_z w32 (of_z w32 z)) (+ℤ_idl (neg_ℤ k)) ∙ to_z-of_z (key_fits (neg_ℤ k) (co-in-range k h))
