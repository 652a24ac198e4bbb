-- What the call comes to, by what the code finds on its way.
use Prim.Native.Nat.{ℕ, zero, suc}
use mathlib.Core.Path.{◌≡◌, refl, sym, ap, ◌∙◌, subst, fun_ext}
use mathlib.Core.Logic.{◌⊎◌, inl, inr}
use mathlib.Core.Bool.{Bool, true, false, ◌||◌}
use mathlib.Core.Option.{Option, none, some}
use mathlib.Core.List.{List, [], ◌∷◌, map}
use native.Mathlib.Omega.{arith}
use lib.Dec.{eqb, ltb}
use lib.ListN.{length, get_or, replicate, length-map}
use Rattle.rules.specs.Lists.{any, first}
use Rattle.rules.specs.Names.{parties, bit}
use Rattle.rules.specs.Words.{zeros}
use Rattle.rules.proofs.BitLaws.{zero_bit}
use Rattle.rules.proofs.ListLaws.{bool}
use Rattle.start_order.specs.Pairs.{Pairs, Relation, pair_of, precedes, chain, on_circle}
use Rattle.start_order.specs.Order.{order}
use Rattle.start_order.specs.Call.{Outcome, ordered, circle, refused, settled_by, settled, above7, start_order, call_on}
use Rattle.std.specs.Prelude.{Some, None}
use Rattle.std.proofs.lemmas.Option.{cond_some}
use Rattle.rules.proofs.BitLaws.{eqb-true}
use Rattle.start_order.specs.Answers.{relation_of, gathered, full_order, Settled}
use Rattle.start_order.specs.declared.Start.{Start}
use Rattle.std.specs.Prelude.{Result}
use Rattle.refusal.specs.declared.Refusal.{Refusal}
use Rattle.start_order.proofs.Pairs.{InRange, ranged}
use Rattle.start_order.proofs.Chains.{some_chain}
use Rattle.start_order.proofs.Sets.{gathered-relation}
use Rattle.start_order.proofs.Places.{smallest-of}
use Rattle.start_order.proofs.Circles.{eight-places}
use Rattle.start_order.proofs.Orders.{is-order, no-circle}

-- ---- refused

module _ (pairs result : List ℕ) where
  pub too_many : (ltb 64 (length pairs) || ltb (length result) 8) ≡ true → call_on pairs result ≡ refused 15
  unfolding start_order
  too_many h = rw (length-map pairs pair_of, h) refl

  module _ (few : (ltb 64 (length pairs) || ltb (length result) 8) ≡ false) where
    pub outside : any above7 (map pair_of pairs) ≡ true → call_on pairs result ≡ refused 16
    unfolding start_order
    outside h = rw (length-map pairs pair_of, few, h) refl

    pub inside : any above7 (map pair_of pairs) ≡ false → call_on pairs result ≡ settled (precedes (map pair_of pairs))
    unfolding start_order
    inside h = rw (length-map pairs pair_of, few, h) refl

-- ---- the sets of all pairs

blank : (n b : ℕ) → get_or {A = ℕ} (replicate n 0) b 0 ≡ 0
blank zero b = refl
blank (suc n) zero = refl
blank (suc n) (suc b) = blank n b

module _ (ps : Pairs) (range : InRange ps) where
  pub all-gathered : relation_of (gathered (zeros 8) ps) ≡ precedes ps
  unfolding zeros
  all-gathered =
      gathered-relation ps (zeros 8) refl range
      ∙ fun_ext (λ a. fun_ext (λ b. ap (λ (w : ℕ). bit w a || precedes ps a b) (blank 8 b) ∙ ap (λ (t : Bool). t || precedes ps a b) (zero_bit a)))

-- ---- not refused

-- the order has eight places, or not
module _ (ws : List ℕ) where
  pub full-order : (vs : List ℕ) → full_order ws ≡ Some vs → (length ws ≡ 8) × (ws ≡ vs)
  full-order vs e = let h = cond_some (eqb (length ws) 8) ws vs e in (eqb-true (length ws) 8 h.0, h.1)

  pub no-order : full_order ws ≡ None → length ws ≡ 8 → ⊥
  no-order e h = let k : full_order ws ≡ Some ws = rw h refl in let z : None ≡ Some ws = sym e ∙ k in cc

first_any : (t : ℕ → Bool) (l : List ℕ) (p : ℕ) → first t l ≡ some p → any t l ≡ true
first_any t [] p e = let z : ◌≡◌ {A = ℕ} 0 1 = cc in absurd (omega arith)
first_any t (x ∷ l) p e = go (bool (t x)) (first_any t l p)
  where
    go : (t x ≡ true) ⊎ (t x ≡ false) → (first t l ≡ some p → any t l ≡ true) → any t (x ∷ l) ≡ true
    go (inl h) r = rw h refl
    go (inr h) r = rw h (r (rw h at e))

module _ (ps : Pairs) (none_above : any above7 ps ≡ false) where
  -- eight places: nobody lies on a circle
  pub all-eight : length (order (precedes ps)) ≡ 8 → settled (precedes ps) ≡ ordered (order (precedes ps))
  unfolding settled on_circle
  all-eight e = go (first (on_circle (precedes ps)) parties) refl
    where
      go : (o : Option ℕ) → first (on_circle (precedes ps)) parties ≡ o → settled_by o (precedes ps) ≡ ordered (order (precedes ps))
      go none h = refl
      go (some p) h =
          let s = smallest-of (on_circle (precedes ps)) 0 8 p h in
          absurd (no-circle ps (ranged ps none_above) (order (precedes ps)) (is-order ps (ranged ps none_above) e) p (some_chain ps 8 p p s.passes))

  -- fewer: somebody does
  pub some-circle : (length (order (precedes ps)) ≡ 8 → ⊥) → any (on_circle (precedes ps)) parties ≡ true
  some-circle n = go (first (on_circle (precedes ps)) parties) refl
    where
      go : (o : Option ℕ) → first (on_circle (precedes ps)) parties ≡ o → any (on_circle (precedes ps)) parties ≡ true
      go none h = absurd (n (eight-places (precedes ps) h))
      go (some p) h = first_any (on_circle (precedes ps)) parties p h

pub named : (R : Relation) (p : ℕ) → first (λ q. chain R 8 q q) parties ≡ some p → settled R ≡ circle p
unfolding settled on_circle
named R p h = ap (λ (o : Option ℕ). settled_by o R) h

pub settles : {o o' : Outcome} {r : Result Start Refusal} {result after : List ℕ} → o ≡ o' → Settled o' r result after → Settled o r result after
settles {o} {o'} {r} {result} {after} e h = subst (λ (x : Outcome). Settled x r result after) (sym e) h
