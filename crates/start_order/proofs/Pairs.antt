-- Pairs as a relation: a pair of the list, and what the test of it says.
use Prim.Native.Nat.{ℕ, ◌≤◌, ◌<◌}
use mathlib.Core.Path.{◌≡◌, refl, ap₂, subst, fun_ext}
use mathlib.Core.Logic.{◌⊎◌, inl, inr}
use mathlib.Core.Bool.{Bool, true, false, ◌&&◌, ◌||◌}
use native.Mathlib.Omega.{arith}
use borrow.Author.Tests.{ltb-false}
use lib.Dec.{eqb, ltb}
use Rattle.rules.specs.Lists.{any, In}
use Rattle.rules.proofs.BitLaws.{eqb-true, eqb_same}
use Rattle.rules.proofs.ListLaws.{bool, clash, and_left, and_right, or_left, or_right}
use Rattle.rules.proofs.Members.{any-in, in-any}
use Rattle.rules.proofs.SetLaws.{same_truth}
use Rattle.start_order.specs.Pairs.{Pairs, precedes}
use Rattle.start_order.specs.Call.{above7}

-- ---- tests

pub either : (a b : Bool) → (a || b) ≡ true → (a ≡ true) ⊎ (b ≡ true)
either true b e = inl refl
either false b e = inr e

pub or-false : (b : Bool) → (b || false) ≡ b
or-false true = refl
or-false false = refl

pub or_assoc : (r s t : Bool) → ((r || s) || t) ≡ (r || (s || t))
or_assoc true s t = refl
or_assoc false s t = refl

-- ---- pairs

tests : (p : ℕ × ℕ) (a b : ℕ) → p ≡ (a, b) → (eqb p.0 a && eqb p.1 b) ≡ true
tests p a b e = rw e (rw (eqb_same a, eqb_same b) refl)

pub in-precedes : (ps : Pairs) (a b : ℕ) → In (a, b) ps → precedes ps a b ≡ true
unfolding precedes
in-precedes ps a b i = in-any (λ p. eqb p.0 a && eqb p.1 b) (a, b) ps i (tests (a, b) a b refl)

pub precedes-in : (ps : Pairs) (a b : ℕ) → precedes ps a b ≡ true → In (a, b) ps
unfolding precedes
precedes-in ps a b h =
    let k = any-in (λ p. eqb p.0 a && eqb p.1 b) ps h in
    let p : ℕ × ℕ = k.0 in
    let first : p.0 ≡ a = eqb-true p.0 a (and_left (eqb p.0 a) (eqb p.1 b) k.1.1) in
    let second : p.1 ≡ b = eqb-true p.1 b (and_right (eqb p.0 a) (eqb p.1 b) k.1.1) in
    let same : p ≡ (a, b) = ap₂ (λ (x y : ℕ). (x, y)) first second in
    subst (λ (q : ℕ × ℕ). In q ps) same k.1.0

-- pairs of the same two parties make the same relation
pub same_relation : (ps qs : Pairs) → ((a b : ℕ) → In (a, b) ps → In (a, b) qs) → ((a b : ℕ) → In (a, b) qs → In (a, b) ps) → precedes ps ≡ precedes qs
same_relation ps qs there back =
    fun_ext (λ a. fun_ext (λ b.
    same_truth (precedes ps a b) (precedes qs a b)
    (λ h. in-precedes qs a b (there a b (precedes-in ps a b h)))
    (λ h. in-precedes ps a b (back a b (precedes-in qs a b h)))))

-- ---- parties in range

abbrev pub InRange : Pairs → Type 0
InRange ps = (a b : ℕ) → In (a, b) ps → (a < 8) × (b < 8)

pub ranged : (ps : Pairs) → any above7 ps ≡ false → InRange ps
ranged ps e a b i =
    let out : above7 (a, b) ≡ false = none_above (bool (above7 (a, b))) in
    let first : a ≤ 7 = ltb-false 7 a (or_left (ltb 7 a) (ltb 7 b) out) in
    let second : b ≤ 7 = ltb-false 7 b (or_right (ltb 7 a) (ltb 7 b) out) in
    (omega arith, omega arith)
  where
    none_above : (above7 (a, b) ≡ true) ⊎ (above7 (a, b) ≡ false) → above7 (a, b) ≡ false
    none_above (inl t) = clash (any above7 ps) (in-any above7 (a, b) ps i t) e
    none_above (inr f) = f
