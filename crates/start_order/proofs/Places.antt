-- The order place by place: each party is the next after those before it, and so stands once.
use Prim.Native.Nat.{ℕ, zero, suc, ◌+◌, ◌≤◌, ◌<◌}
use mathlib.Core.Path.{◌≡◌, refl, sym, ap, ◌∙◌, subst}
use mathlib.Core.Logic.{◌⊎◌, inl, inr}
use mathlib.Core.Bool.{Bool, true, false, not, ◌||◌}
use mathlib.Core.Option.{Option, none, some}
use mathlib.Core.List.{List, [], ◌∷◌, ◌++◌, append-nil, append_assoc}
use native.Mathlib.Omega.{arith}
use borrow.Author.Tests.{not-true, eq-eqb, ne_eqb}
use lib.Dec.{eqb}
use Rattle.rules.specs.Lists.{all, keep, first, In, from}
use Rattle.rules.specs.Names.{parties}
use Rattle.rules.proofs.BitLaws.{eqb-true, eqb_same}
use Rattle.rules.proofs.ListLaws.{bool, clash, and_left}
use Rattle.rules.proofs.Members.{any-in, in-any, in_left, in_right}
use Rattle.start_order.specs.Pairs.{Relation}
use Rattle.start_order.specs.Order.{ready, next, is_in, goes_on, order_from}
use Rattle.start_order.specs.Claims.{times}
use Rattle.start_order.proofs.Pairs.{or-false}

-- ---- elements

pub is_in-in : (xs : List ℕ) (p : ℕ) → is_in xs p ≡ true → In p xs
is_in-in xs p h =
    let k = any-in (λ x. eqb x p) xs h in
    subst (λ (q : ℕ). In q xs) (eqb-true k.0 p k.1.1) k.1.0

pub in-is_in : (xs : List ℕ) (p : ℕ) → In p xs → is_in xs p ≡ true
in-is_in xs p i = in-any (λ x. eqb x p) p xs i (eqb_same p)

pub not-is_in : (xs : List ℕ) (p : ℕ) → (In p xs → ⊥) → is_in xs p ≡ false
not-is_in xs p n = elim (bool (is_in xs p)) [ inl t ↦ absurd (n (is_in-in xs p t)) | inr f ↦ f ]

pub is_in-more : (xs : List ℕ) (q p : ℕ) → is_in xs p ≡ true → is_in (xs ++ (q ∷ [])) p ≡ true
is_in-more xs q p h = in-is_in (xs ++ (q ∷ [])) p (in_left p xs (q ∷ []) (is_in-in xs p h))

pub is_in-last : (xs : List ℕ) (q : ℕ) → is_in (xs ++ (q ∷ [])) q ≡ true
is_in-last xs q = in-is_in (xs ++ (q ∷ [])) q (in_right q xs (q ∷ []) (inl refl))

pub is_in-snoc : (xs : List ℕ) (q p : ℕ) → is_in (xs ++ (q ∷ [])) p ≡ (is_in xs p || eqb q p)
is_in-snoc [] q p = or-false (eqb q p)
is_in-snoc (x ∷ xs) q p = go (eqb x p) (is_in-snoc xs q p)
  where
    go : (b : Bool) → is_in (xs ++ (q ∷ [])) p ≡ (is_in xs p || eqb q p) → (b || is_in (xs ++ (q ∷ [])) p) ≡ ((b || is_in xs p) || eqb q p)
    go true r = refl
    go false r = r

-- ---- the first of numbers in a row that passes a test is the smallest

pub record Smallest (t : ℕ → Bool) (i end p : ℕ) : Type 0 where
  pub below : p < end
  pub passes : t p ≡ true
  pub least : (q : ℕ) → i ≤ q → q < end → t q ≡ true → p ≤ q

some_is : (x p : ℕ) → some x ≡ some p → x ≡ p
some_is x p e = cc

pub smallest-of : (t : ℕ → Bool) (i n p : ℕ) → first t (from i n) ≡ some p → Smallest t i (i + n) p
smallest-of t i zero p e = let z : ◌≡◌ {A = ℕ} 0 1 = cc in absurd (omega arith)
smallest-of t i (suc n) p e = go (bool (t i)) (smallest-of t (suc i) n p)
  where
    go : (t i ≡ true) ⊎ (t i ≡ false) → (first t (from (suc i) n) ≡ some p → Smallest t (suc i) (suc i + n) p) → Smallest t i (i + suc n) p
    go (inl h) r =
        let q : i ≡ p = some_is i p (rw h at e) in
        record { below = omega arith; passes = subst (λ (x : ℕ). t x ≡ true) q h; least = λ x l m y. omega arith }
    go (inr h) r =
        let s = r (rw h at e) in
        record { below = omega (arith, s.below); passes = s.passes; least = λ x l m y. later s x l m y }
      where
        later : Smallest t (suc i) (suc i + n) p → (x : ℕ) → i ≤ x → x < i + suc n → t x ≡ true → p ≤ x
        later s x l m y =
            let other : i ≡ x → ⊥ = λ q. clash (t x) y (sym (ap t q) ∙ h) in
            s.least x (omega (arith, other)) (omega arith) y

pub none_of : (t : ℕ → Bool) (i n : ℕ) → first t (from i n) ≡ none → (q : ℕ) → i ≤ q → q < i + n → t q ≡ false
none_of t i zero e q l m = absurd (omega arith)
none_of t i (suc n) e q l m = go (bool (t i)) (bool (t q)) (none_of t (suc i) n)
  where
    go : (t i ≡ true) ⊎ (t i ≡ false) → (t q ≡ true) ⊎ (t q ≡ false) → (first t (from (suc i) n) ≡ none → (q : ℕ) → suc i ≤ q → q < suc i + n → t q ≡ false)
        → t q ≡ false
    go (inl h) c r = let e' : some i ≡ none = rw h at e in let z : ◌≡◌ {A = ℕ} 0 1 = cc in absurd (omega arith)
    go (inr h) (inr f) r = f
    go (inr h) (inl y) r =
        let other : i ≡ q → ⊥ = λ x. clash (t q) y (sym (ap t x) ∙ h) in
        r (rw h at e) q (omega (arith, other)) (omega arith)

module _ (R : Relation) where
  -- what is next is a party that is ready, and the smallest such
  pub next-smallest : (placed : ℕ → Bool) (p : ℕ) → next R placed ≡ some p → Smallest (ready R placed) 0 8 p
  next-smallest placed p e = smallest-of (ready R placed) 0 8 p e

  pub next-unplaced : (placed : ℕ → Bool) (p : ℕ) → next R placed ≡ some p → placed p ≡ false
  unfolding ready
  next-unplaced placed p e = not-true (placed p) (and_left (not (placed p)) (all placed (keep (λ a. R a p) parties)) (next-smallest placed p e).passes)

  -- ---- place by place

  -- each party of the list is the next after those placed and those before it
  abbrev pub Follows : List ℕ → List ℕ → Type 0
  Follows placed [] = Unit {0}
  Follows placed (p ∷ ws) = (next R (is_in placed) ≡ some p) × Follows (placed ++ (p ∷ [])) ws

  pub follows : (n : ℕ) (placed : List ℕ) → Follows placed (order_from R n placed)
  unfolding order_from
  follows zero placed = tt
  follows (suc n) placed = go (next R (is_in placed)) refl (λ p. follows n (placed ++ (p ∷ [])))
    where
      go : (o : Option ℕ) → next R (is_in placed) ≡ o → ((p : ℕ) → Follows (placed ++ (p ∷ [])) (order_from R n (placed ++ (p ∷ []))))
          → Follows placed (goes_on o (λ p. p ∷ order_from R n (placed ++ (p ∷ []))))
      go none e r = tt
      go (some p) e r = (e, r p)

  pub at_place : (placed xs ys : List ℕ) (p : ℕ) → Follows placed (xs ++ (p ∷ ys)) → next R (is_in (placed ++ xs)) ≡ some p
  at_place placed [] ys p h = rw (append-nil placed) h.0
  at_place placed (x ∷ xs) ys p h =
      let e : (placed ++ (x ∷ [])) ++ xs ≡ placed ++ (x ∷ xs) = append_assoc placed (x ∷ []) xs in
      subst (λ (l : List ℕ). next R (is_in l) ≡ some p) e (at_place (placed ++ (x ∷ [])) xs ys p h.1)

  -- ---- each once

  placed-not-again : (placed ws : List ℕ) (p : ℕ) → Follows placed ws → is_in placed p ≡ true → times p ws ≡ 0
  placed-not-again placed [] p h i = refl
  placed-not-again placed (q ∷ ws) p h i =
      let other : q ≡ p → ⊥ = λ (e : q ≡ p). clash (is_in placed p) i (subst (λ (x : ℕ). is_in placed x ≡ false) e (next-unplaced (is_in placed) q h.0)) in
      rw (ne_eqb q p other) (placed-not-again (placed ++ (q ∷ [])) ws p h.1 (is_in-more placed q p i))

  pub once : (placed ws : List ℕ) (p : ℕ) → Follows placed ws → is_in placed p ≡ false → In p ws → times p ws ≡ 1
  once placed [] p h n i = absurd i
  once placed (q ∷ ws) p h n (inl e) =
      rw (eq-eqb q p e) (ap suc (placed-not-again (placed ++ (q ∷ [])) ws p h.1 (subst (λ (x : ℕ). is_in (placed ++ (q ∷ [])) x ≡ true) e (is_in-last placed q))))
  once placed (q ∷ ws) p h n (inr i) = go (bool (eqb q p)) (once (placed ++ (q ∷ [])) ws p h.1)
    where
      go : (eqb q p ≡ true) ⊎ (eqb q p ≡ false) → (is_in (placed ++ (q ∷ [])) p ≡ false → In p ws → times p ws ≡ 1) → times p (q ∷ ws) ≡ 1
      go (inl t) r =
          rw t (ap suc (placed-not-again (placed ++ (q ∷ [])) ws p h.1 (subst (λ (x : ℕ). is_in (placed ++ (q ∷ [])) x ≡ true) (eqb-true q p t) (is_in-last placed q))))
      go (inr f) r = rw f (r (is_in-snoc placed q p ∙ rw (n, f) refl) i)

  -- nobody else stands there
  pub parties-only : (placed ws : List ℕ) (p : ℕ) → Follows placed ws → In p ws → p < 8
  parties-only placed [] p h i = absurd i
  parties-only placed (q ∷ ws) p h (inl e) = subst (λ (x : ℕ). x < 8) e (next-smallest (is_in placed) q h.0).below
  parties-only placed (q ∷ ws) p h (inr i) = parties-only (placed ++ (q ∷ [])) ws p h.1 i

pub times_none : (p : ℕ) (ws : List ℕ) → (In p ws → ⊥) → times p ws ≡ 0
times_none p [] n = refl
times_none p (x ∷ ws) n = rw (ne_eqb x p (λ (e : x ≡ p). n (inl e))) (times_none p ws (λ i. n (inr i)))
