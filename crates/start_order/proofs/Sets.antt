-- Sets of parties as words: their bits, and the eight sets of a relation.
use Prim.Native.Nat.{ℕ, zero, suc, ◌/◌, ◌%◌, ◌^◌, ◌≤◌, ◌<◌, max}
use mathlib.Core.Path.{◌≡◌, refl, sym, ap, ◌∙◌, subst, fun_ext}
use mathlib.Core.Logic.{◌⊎◌, inl, inr}
use mathlib.Core.Bool.{Bool, true, false, ◌&&◌, ◌||◌}
use mathlib.Core.List.{List, [], ◌∷◌, ◌++◌, map, append-nil}
use native.Mathlib.Nat.{mod-lt, zero-lt-suc}
use native.Mathlib.Decide.{ℕ_discrete}
use native.Mathlib.Omega.{arith}
use borrow.Author.Tests.{eq-eqb, ne_eqb}
use lib.Bits.{bit_or}
use lib.Dec.{eqb}
use lib.ListN.{length, get_or, length-set, get_or-map}
use lib.Seq.{get_or-set_same, get_or-set_other}
use Rattle.rules.specs.Lists.{keep, from}
use Rattle.rules.specs.Names.{parties, bit, bits_in, with_bit, set_bit}
use Rattle.rules.proofs.BitLaws.{eqb-true, or-bit, bit-with, bit_kept, bit-self, zero_bit, no-bit}
use Rattle.rules.proofs.ListLaws.{bool, keep_append}
use Rattle.rules.proofs.Members.{or-true}
use Rattle.rules.proofs.SetLaws.{same_truth}
use Rattle.start_order.specs.Pairs.{Pairs, Relation, precedes}
use Rattle.start_order.specs.Answers.{relation_of, gathered, joined_by}
use Rattle.start_order.proofs.Pairs.{either, or_assoc, InRange}

-- ---- bits

pub or-bits : (w v d : ℕ) → bit (bit_or w v) d ≡ (bit w d || bit v d)
or-bits w v d = rw (or-bit w v d) (go (w / 2 ^ d % 2) (v / 2 ^ d % 2) (mod-lt (w / 2 ^ d) (zero-lt-suc 1)) (mod-lt (v / 2 ^ d) (zero-lt-suc 1)))
  where
    go : (x y : ℕ) → x < 2 → y < 2 → eqb (max x y) 1 ≡ (eqb x 1 || eqb y 1)
    go zero zero h k = refl
    go zero (suc zero) h k = refl
    go (suc zero) zero h k = refl
    go (suc zero) (suc zero) h k = refl
    go zero (suc (suc y)) h k = absurd (omega arith)
    go (suc zero) (suc (suc y)) h k = absurd (omega arith)
    go (suc (suc x)) y h k = absurd (omega arith)

pub with-bits : (w c d : ℕ) → bit (with_bit w c) d ≡ (bit w d || eqb c d)
with-bits w c d = same_truth (bit (with_bit w c) d) (bit w d || eqb c d) there back
  where
    there : bit (with_bit w c) d ≡ true → (bit w d || eqb c d) ≡ true
    there h = elim (bit-with w c d h) [ inl e ↦ rw e refl | inr e ↦ rw (eq-eqb c d e) (or-true (bit w d)) ]

    back : (bit w d || eqb c d) ≡ true → bit (with_bit w c) d ≡ true
    back h = elim (either (bit w d) (eqb c d) h) [ inl e ↦ bit_kept w c d e | inr e ↦ subst (λ (x : ℕ). bit (with_bit w c) x ≡ true) (eqb-true c d e) (bit-self w c) ]

-- the bits of a set of parties are among the parties
pub party-bits : (w : ℕ) → w < 256 → bits_in w ≡ keep (bit w) parties
unfolding bits_in
party-bits w h = front (from 0 8) (from 8 56) (none_kept 8 56 (omega arith))
  where
    none_kept : (i n : ℕ) → 8 ≤ i → keep (bit w) (from i n) ≡ []
    none_kept i zero l = refl
    none_kept i (suc n) l = rw (sym (no-bit 8 w i h l)) (none_kept (suc i) n (omega arith))

    front : (xs ys : List ℕ) → keep (bit w) ys ≡ [] → keep (bit w) (xs ++ ys) ≡ keep (bit w) xs
    front xs ys e = keep_append (bit w) xs ys ∙ ap (λ (l : List ℕ). keep (bit w) xs ++ l) e ∙ append-nil (keep (bit w) xs)

-- ---- one set changed, all sets mapped

and-true : (b : Bool) → b ≡ (b && true)
and-true true = refl
and-true false = refl

unjoined : (r t : Bool) → r ≡ (r || (t && false))
unjoined true t = refl
unjoined false true = refl
unjoined false false = refl

pub set-relation : (ws : List ℕ) (x y : ℕ) → y < length ws → relation_of (set_bit y x ws) ≡ (λ a b. relation_of ws a b || (eqb x a && eqb y b))
set-relation ws x y l = fun_ext (λ a. fun_ext (λ b. go a b (ℕ_discrete y b)))
  where
    go : (a b : ℕ) → Dec (y ≡ b) → bit (get_or (set_bit y x ws) b 0) a ≡ (bit (get_or ws b 0) a || (eqb x a && eqb y b))
    go a b (yes e) =
        let same : get_or (set_bit y x ws) b 0 ≡ with_bit (get_or ws b 0) x =
        subst (λ (z : ℕ). get_or (set_bit y x ws) z 0 ≡ with_bit (get_or ws z 0) x) e (get_or-set_same ws y (with_bit (get_or ws y 0) x) 0 l) in
        ap (λ (w : ℕ). bit w a) same ∙ with-bits (get_or ws b 0) x a ∙ ap (λ (t : Bool). bit (get_or ws b 0) a || t) (and-true (eqb x a) ∙ ap (λ (t : Bool). eqb x a && t) (sym (eq-eqb y b e)))
    go a b (no n) =
        let other : get_or (set_bit y x ws) b 0 ≡ get_or ws b 0 = get_or-set_other ws y b (with_bit (get_or ws y 0) x) 0 (λ q. n (sym q)) in
        ap (λ (w : ℕ). bit w a) other ∙ unjoined (bit (get_or ws b 0) a) (eqb x a) ∙ ap (λ (t : Bool). bit (get_or ws b 0) a || (eqb x a && t)) (sym (ne_eqb y b n))

-- the pairs, one after another
pub gathered-relation : (ps : Pairs) (ws : List ℕ) → length ws ≡ 8 → InRange ps → relation_of (gathered ws ps) ≡ (λ a b. relation_of ws a b || precedes ps a b)
unfolding precedes
gathered-relation [] ws e range = fun_ext (λ a. fun_ext (λ b. unjoined (relation_of ws a b) true))
gathered-relation (p ∷ ps) ws e range =
    gathered-relation ps (set_bit p.1 p.0 ws) (length-set ws p.1 _ ∙ e) (λ a b i. range a b (inr i))
    ∙ ap {B = Relation} (λ R a b. R a b || precedes ps a b) (set-relation ws p.0 p.1 (omega (arith, (range p.0 p.1 (inl refl)).1)))
    ∙ fun_ext (λ a. fun_ext (λ b. or_assoc (relation_of ws a b) (eqb p.0 a && eqb p.1 b) (precedes ps a b)))

pub gathered-length : (ps : Pairs) (ws : List ℕ) → length (gathered ws ps) ≡ length ws
gathered-length [] ws = refl
gathered-length (p ∷ ps) ws = gathered-length ps (set_bit p.1 p.0 ws) ∙ length-set ws p.1 _

-- ---- chains through k

joined-bits : (via k w a : ℕ) → bit (joined_by via k w) a ≡ (bit w a || (bit via a && bit w k))
joined-bits via k w a = go (bool (bit w k))
  where
    go : (bit w k ≡ true) ⊎ (bit w k ≡ false) → bit (joined_by via k w) a ≡ (bit w a || (bit via a && bit w k))
    go (inl e) = rw e (or-bits w via a ∙ ap (λ (t : Bool). bit w a || t) (and-true (bit via a)))
    go (inr e) = rw e (unjoined (bit w a) (bit via a))

pub joined-relation : (ws : List ℕ) (k : ℕ) → relation_of (map (joined_by (get_or ws k 0) k) ws) ≡ (λ a b. relation_of ws a b || (relation_of ws a k && relation_of ws k b))
joined-relation ws k = fun_ext (λ a. fun_ext (λ b. go a b))
  where
    nothing : joined_by (get_or ws k 0) k 0 ≡ 0
    nothing = rw (zero_bit k) refl

    go : (a b : ℕ) → bit (get_or (map (joined_by (get_or ws k 0) k) ws) b 0) a ≡ (bit (get_or ws b 0) a || (bit (get_or ws k 0) a && bit (get_or ws b 0) k))
    go a b =
        let e : get_or (map (joined_by (get_or ws k 0) k) ws) b 0 ≡ joined_by (get_or ws k 0) k (get_or ws b 0) =
        ap (λ (d : ℕ). get_or (map (joined_by (get_or ws k 0) k) ws) b d) (sym nothing) ∙ get_or-map (joined_by (get_or ws k 0) k) ws b 0 in
        ap (λ (w : ℕ). bit w a) e ∙ joined-bits (get_or ws k 0) k (get_or ws b 0) a
