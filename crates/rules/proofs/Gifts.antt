-- What the gift of a name changes: a word of the party that gains it, and nothing else.
use mathlib.Core.Path.{◌≡◌, refl, sym, ap, ap₂, ◌∙◌, subst}
use mathlib.Core.Logic.{◌⊎◌, inl, inr, ◌≢◌}
use mathlib.Core.Bool.{true}
use mathlib.Core.List.{List, [], ◌∷◌, map}
use Prim.Native.Nat.{ℕ, suc, ◌+◌, ◌<◌}
use native.Mathlib.Omega.{arith}
use native.Mathlib.Decide.{ℕ_discrete}
use lib.ListN.{length, get_or, set, length-set}
use lib.Seq.{get_or-set_same, get_or-set_other}
use Rattle.rules.specs.Lists.{In, from}
use Rattle.rules.specs.Names.{parties, Name, partition, key, held_in, with_bit, set_bit}
use Rattle.rules.specs.State.{State, holds, give, give_all, give_each}
use Rattle.rules.proofs.BitLaws.{bit-set, bit-self, bit-set-kept}

pub give-entries : (who : ℕ) (n : Name) (s : State) → (give who n s).entries ≡ s.entries
unfolding give
give-entries who (partition c) s = refl
give-entries who (key k) s = refl

pub give_all-entries : (who : ℕ) (ns : List Name) (s : State) → (give_all who ns s).entries ≡ s.entries
give_all-entries who [] s = refl
give_all-entries who (n ∷ ns) s = give_all-entries who ns (give who n s) ∙ give-entries who n s

-- each party has its two words
abbrev pub EightEach : State → Type 0
EightEach s = (length s.partitions ≡ 8) × (length s.keys ≡ 8)

pub give-eight : (who : ℕ) (n : Name) (s : State) → EightEach s → EightEach (give who n s)
unfolding give
give-eight who (partition c) s h = (length-set s.partitions who _ ∙ h.0, h.1)
give-eight who (key k) s h = (h.0, length-set s.keys who _ ∙ h.1)

pub give_all-eight : (who : ℕ) (ns : List Name) (s : State) → EightEach s → EightEach (give_all who ns s)
give_all-eight who [] s h = h
give_all-eight who (n ∷ ns) s h = give_all-eight who ns (give who n s) (give-eight who n s h)

-- the party holds the same in both states
abbrev pub SameWords : ℕ → State → State → Type 0
SameWords p s₁ s₂ = (get_or s₁.partitions p 0 ≡ get_or s₂.partitions p 0) × (get_or s₁.keys p 0 ≡ get_or s₂.keys p 0)

pub holds_same : (p : ℕ) (s₁ s₂ : State) → SameWords p s₁ s₂ → (n : Name) → holds s₁ p n ≡ holds s₂ p n
unfolding holds
holds_same p s₁ s₂ h n = rw (h.0, h.1) refl

give-other : (who p : ℕ) (n : Name) (s : State) → p ≢ who → SameWords p (give who n s) s
unfolding give
give-other who p (partition c) s h = (get_or-set_other s.partitions who p _ 0 h, refl)
give-other who p (key k) s h = (refl, get_or-set_other s.keys who p _ 0 h)

pub give_all-other : (who p : ℕ) (ns : List Name) (s : State) → p ≢ who → SameWords p (give_all who ns s) s
give_all-other who p [] s h = (refl, refl)
give_all-other who p (n ∷ ns) s h =
    let a : SameWords p (give_all who ns (give who n s)) (give who n s) = give_all-other who p ns (give who n s) h in
    let b : SameWords p (give who n s) s = give-other who p n s h in
    (a.0 ∙ b.0, a.1 ∙ b.1)

-- what is held after a gift was held before, or is the gift
pub holds-give : (who p : ℕ) (n m : Name) (s : State) → holds (give who n s) p m ≡ true → (holds s p m ≡ true) ⊎ (n ≡ m)
unfolding give holds held_in
holds-give who p (partition c) (partition d) s h = elim (bit-set s.partitions who p c d h) [ inl a ↦ inl a | inr e ↦ inr (ap partition e) ]
holds-give who p (partition c) (key d) s h = inl h
holds-give who p (key c) (partition d) s h = inl h
holds-give who p (key c) (key d) s h = elim (bit-set s.keys who p c d h) [ inl a ↦ inl a | inr e ↦ inr (ap key e) ]

pub holds-give_all : (who p : ℕ) (ns : List Name) (m : Name) (s : State) → holds (give_all who ns s) p m ≡ true → (holds s p m ≡ true) ⊎ In m ns
holds-give_all who p [] m s h = inl h
holds-give_all who p (n ∷ ns) m s h =
    elim (holds-give_all who p ns m (give who n s) h) [
      | inl a ↦ elim (holds-give who p n m s a) [ inl b ↦ inl b | inr e ↦ inr (inl e) ]
      | inr i ↦ inr (inr i)
    ]

-- and what was held before, and the gift, is held after it
pub give_kept : (who p : ℕ) (n m : Name) (s : State) → holds s p m ≡ true → holds (give who n s) p m ≡ true
unfolding give holds held_in
give_kept who p (partition c) (partition d) s h = bit-set-kept s.partitions who p c d h
give_kept who p (partition c) (key d) s h = h
give_kept who p (key c) (partition d) s h = h
give_kept who p (key c) (key d) s h = bit-set-kept s.keys who p c d h

pub give_all-kept : (who p : ℕ) (ns : List Name) (m : Name) (s : State) → holds s p m ≡ true → holds (give_all who ns s) p m ≡ true
give_all-kept who p [] m s h = h
give_all-kept who p (n ∷ ns) m s h = give_all-kept who p ns m (give who n s) (give_kept who p n m s h)

give-has : (who : ℕ) (n : Name) (s : State) → who < 8 → EightEach s → holds (give who n s) who n ≡ true
unfolding give holds held_in
give-has who (partition c) s w l = rw (get_or-set_same s.partitions who _ 0 (omega (arith, l.0))) (bit-self (get_or s.partitions who 0) c)
give-has who (key c) s w l = rw (get_or-set_same s.keys who _ 0 (omega (arith, l.1))) (bit-self (get_or s.keys who 0) c)

pub give_all-has : (who : ℕ) (ns : List Name) (m : Name) (s : State) → who < 8 → EightEach s → In m ns → holds (give_all who ns s) who m ≡ true
give_all-has who [] m s w l i = absurd i
give_all-has who (n ∷ ns) m s w l (inl e) = give_all-kept who who ns m (give who n s) (rw (← e) (give-has who n s w l))
give_all-has who (n ∷ ns) m s w l (inr i) = give_all-has who ns m (give who n s) w (give-eight who n s l) i

-- ---- the same gifts to each of several parties

pub give_each-entries : (whos : List ℕ) (ns : List Name) (s : State) → (give_each whos ns s).entries ≡ s.entries
give_each-entries [] ns s = refl
give_each-entries (who ∷ whos) ns s = give_each-entries whos ns (give_all who ns s) ∙ give_all-entries who ns s

pub give_each-eight : (whos : List ℕ) (ns : List Name) (s : State) → EightEach s → EightEach (give_each whos ns s)
give_each-eight [] ns s h = h
give_each-eight (who ∷ whos) ns s h = give_each-eight whos ns (give_all who ns s) (give_all-eight who ns s h)

pub holds-give_each : (whos : List ℕ) (p : ℕ) (ns : List Name) (m : Name) (s : State) → holds (give_each whos ns s) p m ≡ true
    → (holds s p m ≡ true) ⊎ In m ns
holds-give_each [] p ns m s h = inl h
holds-give_each (who ∷ whos) p ns m s h =
    elim (holds-give_each whos p ns m (give_all who ns s) h) [ inl a ↦ holds-give_all who p ns m s a | inr i ↦ inr i ]

pub give_each-kept : (whos : List ℕ) (p : ℕ) (ns : List Name) (m : Name) (s : State) → holds s p m ≡ true → holds (give_each whos ns s) p m ≡ true
give_each-kept [] p ns m s h = h
give_each-kept (who ∷ whos) p ns m s h = give_each-kept whos p ns m (give_all who ns s) (give_all-kept who p ns m s h)

pub give_each-has : (whos : List ℕ) (p : ℕ) (ns : List Name) (m : Name) (s : State) → In p whos → p < 8 → EightEach s → In m ns
    → holds (give_each whos ns s) p m ≡ true
give_each-has [] p ns m s i w l j = absurd i
give_each-has (who ∷ whos) p ns m s (inl e) w l j =
    give_each-kept whos p ns m (give_all who ns s) (rw (← e) (give_all-has who ns m s (rw e w) l j))
give_each-has (who ∷ whos) p ns m s (inr i) w l j = give_each-has whos p ns m (give_all who ns s) i w (give_all-eight who ns s l) j

-- a list is its words, one after the other
spelled : (l : List ℕ) (at : ℕ → ℕ) (i : ℕ) → ((j : ℕ) → get_or l j 0 ≡ at (i + j)) → l ≡ map at (from i (length l))
spelled [] at i h = refl
spelled (x ∷ l) at i h =
    let first : x ≡ at i = h 0 ∙ ap at (omega arith) in
    let rest : l ≡ map at (from (suc i) (length l)) = spelled l at (suc i) (λ j. h (suc j) ∙ ap at (omega arith)) in
    ap₂ (λ (y : ℕ) (ys : List ℕ). y ∷ ys) first rest

eight-words : (l : List ℕ) → length l ≡ 8 → l ≡ map (λ i. get_or l i 0) (from 0 8)
eight-words l h = spelled l (λ i. get_or l i 0) 0 (λ j. ap (λ (i : ℕ). get_or l i 0) (omega arith)) ∙ ap (λ n. map (λ i. get_or l i 0) (from 0 n)) h

-- the words with bit c set in those of the parties, one after the other
abbrev set_each : List ℕ → ℕ → List ℕ → List ℕ
set_each [] c ws = ws
set_each (who ∷ whos) c ws = set_each whos c (set_bit who c ws)

set-each : (c : ℕ) (ws : List ℕ) → length ws ≡ 8 → set_each parties c ws ≡ map (λ w. with_bit w c) ws
set-each c ws h = let e : ws ≡ map (λ i. get_or ws i 0) (from 0 8) = eight-words ws h in ap (set_each parties c) e ∙ sym (ap (map (λ w. with_bit w c)) e)

-- a name given to each of the parties in turn is its bit set in all their words
pub each-partition : (c : ℕ) (s : State) → length s.partitions ≡ 8
    → give_each parties (partition c ∷ []) s ≡ record { partitions = map (λ w. with_bit w c) s.partitions; keys = s.keys; entries = s.entries }
unfolding give
each-partition c s h = ap (λ (ws : List ℕ). record { partitions = ws; keys = s.keys; entries = s.entries }) (set-each c s.partitions h)

pub each-key : (k : ℕ) (s : State) → length s.keys ≡ 8
    → give_each parties (key k ∷ []) s ≡ record { partitions = s.partitions; keys = map (λ w. with_bit w k) s.keys; entries = s.entries }
unfolding give
each-key k s h = ap (λ (ws : List ℕ). record { partitions = s.partitions; keys = ws; entries = s.entries }) (set-each k s.keys h)

-- the same change to a word of each of two lists
set-alike : (l₁ l₂ : List ℕ) (f : ℕ → ℕ) (who p : ℕ) → who < length l₁ → who < length l₂
    → get_or l₁ who 0 ≡ get_or l₂ who 0 → get_or l₁ p 0 ≡ get_or l₂ p 0
    → get_or (set l₁ who (f (get_or l₁ who 0))) p 0 ≡ get_or (set l₂ who (f (get_or l₂ who 0))) p 0
set-alike l₁ l₂ f who p h₁ h₂ e q = go (ℕ_discrete p who)
  where
    v₁ : ℕ
    v₁ = f (get_or l₁ who 0)

    v₂ : ℕ
    v₂ = f (get_or l₂ who 0)

    go : Dec (p ≡ who) → get_or (set l₁ who v₁) p 0 ≡ get_or (set l₂ who v₂) p 0
    go (yes r) =
        subst (λ (x : ℕ). get_or (set l₁ who v₁) x 0 ≡ get_or (set l₂ who v₂) x 0) (sym r)
        (get_or-set_same l₁ who v₁ 0 h₁ ∙ ap f e ∙ sym (get_or-set_same l₂ who v₂ 0 h₂))
    go (no r) = get_or-set_other l₁ who p v₁ 0 r ∙ q ∙ sym (get_or-set_other l₂ who p v₂ 0 r)

module _ (who p : ℕ) (in_range : who < 8) where
  give-alike : (n : Name) (s₁ s₂ : State) → EightEach s₁ → EightEach s₂ → SameWords who s₁ s₂ → SameWords p s₁ s₂
      → SameWords p (give who n s₁) (give who n s₂)
  unfolding give
  give-alike (partition c) s₁ s₂ l₁ l₂ h q =
      (set-alike s₁.partitions s₂.partitions (λ x. with_bit x c) who p (omega (arith, l₁.0)) (omega (arith, l₂.0)) h.0 q.0, q.1)
  give-alike (key c) s₁ s₂ l₁ l₂ h q =
      (q.0, set-alike s₁.keys s₂.keys (λ x. with_bit x c) who p (omega (arith, l₁.1)) (omega (arith, l₂.1)) h.1 q.1)

pub give_all-alike : (who p : ℕ) (ns : List Name) (s₁ s₂ : State) → who < 8 → EightEach s₁ → EightEach s₂ → SameWords who s₁ s₂ → SameWords p s₁ s₂
    → SameWords p (give_all who ns s₁) (give_all who ns s₂)
give_all-alike who p [] s₁ s₂ w l₁ l₂ h q = q
give_all-alike who p (n ∷ ns) s₁ s₂ w l₁ l₂ h q =
    give_all-alike who p ns (give who n s₁) (give who n s₂) w (give-eight who n s₁ l₁) (give-eight who n s₂ l₂)
    (give-alike who who w n s₁ s₂ l₁ l₂ h h) (give-alike who p w n s₁ s₂ l₁ l₂ h q)
