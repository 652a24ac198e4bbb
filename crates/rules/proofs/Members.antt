-- The elements of lists: of two in a row, of one mapped, of what a test keeps, of the numbers from one on, and what holds of them.
use Prim.Native.Nat.{ℕ, zero, suc, ◌+◌, ◌≤◌, ◌<◌}
use mathlib.Core.Path.{◌≡◌, refl, sym, ap, ◌∙◌, subst}
use mathlib.Core.Logic.{◌⊎◌, inl, inr}
use mathlib.Core.Bool.{Bool, true, false, ◌||◌, false≢true}
use mathlib.Core.List.{List, [], ◌∷◌, ◌++◌, map}
use native.Mathlib.Decide.{ℕ_discrete}
use native.Mathlib.Nat.{le_refl}
use native.Mathlib.Omega.{arith}
use lib.ListN.{length}
use Rattle.rules.specs.Lists.{any, keep, All, Some, In, from}
use Rattle.rules.proofs.ListLaws.{bool}

pub or-true : (b : Bool) → (b || true) ≡ true
or-true true = refl
or-true false = refl

module _ {A : Type 0} where
  pub in_left : (x : A) (l r : List A) → In x l → In x (l ++ r)
  in_left x [] r h = absurd h
  in_left x (y ∷ l) r (inl e) = inl e
  in_left x (y ∷ l) r (inr i) = inr (in_left x l r i)

  pub in_right : (x : A) (l r : List A) → In x r → In x (l ++ r)
  in_right x [] r h = h
  in_right x (y ∷ l) r h = inr (in_right x l r h)

  pub append-in : (x : A) (l r : List A) → In x (l ++ r) → In x l ⊎ In x r
  append-in x [] r h = inr h
  append-in x (y ∷ l) r (inl e) = inl (inl e)
  append-in x (y ∷ l) r (inr i) = elim (append-in x l r i) [ inl a ↦ inl (inr a) | inr b ↦ inr b ]

  pub in-keep : (p : A → Bool) (x : A) (l : List A) → In x l → p x ≡ true → In x (keep p l)
  in-keep p x [] h e = h
  in-keep p x (y ∷ l) (inl q) e = rw (ap p q ∙ e) (inl q)
  in-keep p x (y ∷ l) (inr i) e = go (bool (p y)) (in-keep p x l i e)
    where
      go : (p y ≡ true) ⊎ (p y ≡ false) → In x (keep p l) → In x (keep p (y ∷ l))
      go (inl t) r = rw t (inr r)
      go (inr t) r = rw t r

  pub keep-in : (p : A → Bool) (x : A) (l : List A) → In x (keep p l) → In x l × (p x ≡ true)
  keep-in p x [] h = absurd h
  keep-in p x (y ∷ l) h = go (bool (p y)) (keep-in p x l)
    where
      go : (p y ≡ true) ⊎ (p y ≡ false) → (In x (keep p l) → In x l × (p x ≡ true)) → In x (y ∷ l) × (p x ≡ true)
      go (inl t) r = here (rw t at h)
        where
          here : In x (y ∷ keep p l) → In x (y ∷ l) × (p x ≡ true)
          here (inl q) = (inl q, sym (ap p q) ∙ t)
          here (inr i) = (inr (r i).0, (r i).1)
      go (inr t) r = let k = r (rw t at h) in (inr k.0, k.1)

  pub keep-short : (p : A → Bool) (l : List A) → length (keep p l) ≤ length l
  keep-short p [] = le_refl 0
  keep-short p (x ∷ l) = go (bool (p x)) (keep-short p l)
    where
      go : (p x ≡ true) ⊎ (p x ≡ false) → length (keep p l) ≤ length l → length (keep p (x ∷ l)) ≤ length (x ∷ l)
      go (inl t) r = rw t (omega arith)
      go (inr t) r = rw t (omega arith)

  pub All-in : (P : A → Type 0) (l : List A) → ((x : A) → In x l → P x) → All P l
  All-in P [] f = tt
  All-in P (x ∷ l) f = (f x (inl refl), All-in P l (λ y i. f y (inr i)))

  pub All-at-in : (P : A → Type 0) (x : A) (l : List A) → All P l → In x l → P x
  All-at-in P x [] h i = absurd i
  All-at-in P x (y ∷ l) h (inl e) = subst P e h.0
  All-at-in P x (y ∷ l) h (inr i) = All-at-in P x l h.1 i

  pub some_in : (P : A → Type 0) (x : A) (l : List A) → In x l → P x → Some P l
  some_in P x [] i h = i
  some_in P x (y ∷ l) (inl e) h = inl (subst P (sym e) h)
  some_in P x (y ∷ l) (inr i) h = inr (some_in P x l i h)

  pub some-has : (P : A → Type 0) (l : List A) → Some P l → (x : A) × (In x l × P x)
  some-has P [] h = absurd h
  some-has P (y ∷ l) (inl p) = (y, (inl refl, p))
  some-has P (y ∷ l) (inr s) = let k = some-has P l s in (k.0, (inr k.1.0, k.1.1))

  pub any-in : (p : A → Bool) (l : List A) → any p l ≡ true → (x : A) × (In x l × (p x ≡ true))
  any-in p [] h = absurd (false≢true h)
  any-in p (y ∷ l) h = go (bool (p y)) (any-in p l)
    where
      go : (p y ≡ true) ⊎ (p y ≡ false) → (any p l ≡ true → (x : A) × (In x l × (p x ≡ true))) → (x : A) × (In x (y ∷ l) × (p x ≡ true))
      go (inl t) r = (y, (inl refl, t))
      go (inr t) r = let k = r (rw t at h) in (k.0, (inr k.1.0, k.1.1))

  pub in-any : (p : A → Bool) (x : A) (l : List A) → In x l → p x ≡ true → any p l ≡ true
  in-any p x [] i h = absurd i
  in-any p x (y ∷ l) (inl e) h = rw (ap p e ∙ h) refl
  in-any p x (y ∷ l) (inr i) h = rw (in-any p x l i h) (or-true (p y))

module _ {A B : Type 0} (f : A → B) where
  pub in_map : (x : A) (l : List A) → In x l → In (f x) (map f l)
  in_map x [] h = absurd h
  in_map x (y ∷ l) (inl e) = inl (ap f e)
  in_map x (y ∷ l) (inr i) = inr (in_map x l i)

  pub map-in : (y : B) (l : List A) → In y (map f l) → (x : A) × (In x l × (f x ≡ y))
  map-in y [] h = absurd h
  map-in y (x ∷ l) (inl e) = (x, (inl refl, e))
  map-in y (x ∷ l) (inr i) = let r = map-in y l i in (r.0, (inr r.1.0, r.1.1))

pub in-from : (x i n : ℕ) → i ≤ x → x < i + n → In x (from i n)
in-from x i zero h l = absurd (omega arith)
in-from x i (suc n) h l = go (ℕ_discrete i x) (in-from x (suc i) n)
  where
    go : Dec (i ≡ x) → (suc i ≤ x → x < suc i + n → In x (from (suc i) n)) → In x (from i (suc n))
    go (yes e) r = inl e
    go (no k) r = inr (r (omega arith) (omega arith))

pub from_in : (x i n : ℕ) → In x (from i n) → x < i + n
from_in x i zero h = absurd h
from_in x i (suc n) (inl e) = omega arith
from_in x i (suc n) (inr k) = let r = from_in x (suc i) n k in omega arith
