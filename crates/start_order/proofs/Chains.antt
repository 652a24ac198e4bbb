-- Chains: what `chain` computes, party by party, are the chains of pairs of any length.
use Prim.Native.Nat.{ℕ, zero, suc, ◌<◌}
use mathlib.Core.Path.{◌≡◌, refl, subst}
use mathlib.Core.Logic.{◌⊎◌, inl, inr}
use mathlib.Core.Bool.{true, ◌&&◌}
use native.Mathlib.Decide.{ℕ_discrete}
use native.Mathlib.Omega.{arith}
use Rattle.rules.proofs.Members.{or-true}
use Rattle.rules.proofs.ListLaws.{and_left, and_right}
use Rattle.start_order.specs.Pairs.{Pairs, Relation, precedes, chain}
use Rattle.start_order.specs.Claims.{Chain}
use Rattle.start_order.proofs.Pairs.{either, in-precedes, precedes-in, InRange}

module _ (R : Relation) where
  -- ---- one party more on the way

  -- a chain below k + 1 is one below k, or two of them that meet in k
  abbrev Ways : ℕ → ℕ → ℕ → Type 0
  Ways k a b = (chain R k a b ≡ true) ⊎ ((chain R k a k ≡ true) × (chain R k k b ≡ true))

  ways : (k a b : ℕ) → chain R (suc k) a b ≡ true → Ways k a b
  unfolding chain
  ways k a b h = go (either (chain R k a b) (chain R k a k && chain R k k b) h)
    where
      go : (chain R k a b ≡ true) ⊎ ((chain R k a k && chain R k k b) ≡ true) → Ways k a b
      go (inl e) = inl e
      go (inr e) = inr (and_left (chain R k a k) (chain R k k b) e, and_right (chain R k a k) (chain R k k b) e)

  widened : (k a b : ℕ) → chain R k a b ≡ true → chain R (suc k) a b ≡ true
  unfolding chain
  widened k a b h = rw h refl

  met : (k a b : ℕ) → chain R k a k ≡ true → chain R k k b ≡ true → chain R (suc k) a b ≡ true
  unfolding chain
  met k a b f h = rw (f, h) (or-true (chain R k a b))

  -- to and from k itself nothing is gained
  to_last : (k a : ℕ) → Ways k a k → chain R k a k ≡ true
  to_last k a (inl e) = e
  to_last k a (inr e) = e.0

  from_last : (k b : ℕ) → Ways k k b → chain R k k b ≡ true
  from_last k b (inl e) = e
  from_last k b (inr e) = e.1

  -- chains that meet in a party below k are one chain
  abbrev Meets : ℕ → Type 0
  Meets k = (a c b : ℕ) → c < k → chain R k a c ≡ true → chain R k c b ≡ true → chain R k a b ≡ true

  pub meets : (k : ℕ) → Meets k
  meets zero a c b l f h = absurd (omega arith)
  meets (suc k) a c b l f h = go (ℕ_discrete c k) (meets k)
    where
      below : c < k → Ways k a c → Ways k c b → Meets k → chain R (suc k) a b ≡ true
      below m (inl u) (inl v) shorter = widened k a b (shorter a c b m u v)
      below m (inl u) (inr v) shorter = met k a b (shorter a c k m u v.0) v.1
      below m (inr u) (inl v) shorter = met k a b u.0 (shorter k c b m u.1 v)
      below m (inr u) (inr v) shorter = met k a b u.0 v.1

      go : Dec (c ≡ k) → Meets k → chain R (suc k) a b ≡ true
      go (yes e) shorter =
          let f' : chain R (suc k) a k ≡ true = subst (λ (x : ℕ). chain R (suc k) a x ≡ true) e f in
          let h' : chain R (suc k) k b ≡ true = subst (λ (x : ℕ). chain R (suc k) x b ≡ true) e h in
          met k a b (to_last k a (ways k a k f')) (from_last k b (ways k k b h'))
      go (no n) shorter = below (omega arith) (ways k a c f) (ways k c b h) shorter

  pub direct : (k a b : ℕ) → R a b ≡ true → chain R k a b ≡ true
  unfolding chain
  direct zero a b h = h
  direct (suc k) a b h = widened k a b (direct k a b h)

-- ---- chains of pairs

module _ (ps : Pairs) where
  abbrev pub SomeChain : ℕ → ℕ → Type 0
  SomeChain a b = (n : ℕ) × Chain ps n a b

  onto : (n : ℕ) (a c b : ℕ) → Chain ps n a c → SomeChain c b → SomeChain a b
  onto zero a c b i r = (suc r.0, (c, (i, r.1)))
  onto (suc n) a c b h r = let s = onto n h.0 c b h.1.1 r in (suc s.0, (h.0, (h.1.0, s.1)))

  pub some_chain : (k a b : ℕ) → chain (precedes ps) k a b ≡ true → SomeChain a b
  unfolding chain
  some_chain zero a b h = (0, precedes-in ps a b h)
  some_chain (suc k) a b h = go (ways (precedes ps) k a b h) (some_chain k)
    where
      go : Ways (precedes ps) k a b → ((a b : ℕ) → chain (precedes ps) k a b ≡ true → SomeChain a b) → SomeChain a b
      go (inl e) shorter = shorter a b e
      go (inr e) shorter = let f = shorter a k e.0 in onto f.0 a k b f.1 (shorter k b e.1)

  pub chain-of : InRange ps → (n a b : ℕ) → Chain ps n a b → chain (precedes ps) 8 a b ≡ true
  chain-of range zero a b i = direct (precedes ps) 8 a b (in-precedes ps a b i)
  chain-of range (suc n) a b h =
      let c = h.0 in
      meets (precedes ps) 8 a c b (range a c h.1.0).1 (direct (precedes ps) 8 a c (in-precedes ps a c h.1.0)) (chain-of range n c b h.1.1)

  -- where a chain begins there is a pair
  pub begins : (n a b : ℕ) → Chain ps n a b → InRange ps → a < 8
  begins zero a b i range = (range a b i).0
  begins (suc n) a b h range = (range a h.0 h.1.0).0
