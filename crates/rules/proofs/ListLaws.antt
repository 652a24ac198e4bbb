-- Tests on Booleans, and what `keep`, `first` and `without` do to each other.
use mathlib.Core.Path.{◌≡◌, refl, sym, ap, ◌∙◌, subst}
use mathlib.Core.Logic.{◌⊎◌, inl, inr}
use mathlib.Core.Bool.{Bool, true, false, not, ◌&&◌, ◌||◌, cond, false≢true, true≢false}
use mathlib.Core.Option.{none, some}
use mathlib.Core.List.{List, [], ◌∷◌, ◌++◌}
use Prim.Native.Nat.{ℕ, zero, suc, ◌<◌}
use native.Mathlib.Nat.{not-suc-le-zero, le_of_suc-le-suc}
use native.Mathlib.Omega.{arith}
use lib.ListN.{length, get_or}
use Rattle.rules.specs.Lists.{all, keep, first, without, All}
use Rattle.rules.specs.Calls.{Table, first_that_applies}

pub bool : (b : Bool) → (b ≡ true) ⊎ (b ≡ false)
bool true = inl refl
bool false = inr refl

pub clash {ℓ} : {X : Type ℓ} (b : Bool) → b ≡ true → b ≡ false → X
clash b p q = absurd (true≢false (sym p ∙ q))

pub and_left : (a b : Bool) → (a && b) ≡ true → a ≡ true
and_left true b e = refl
and_left false b e = e

pub and_right : (a b : Bool) → (a && b) ≡ true → b ≡ true
and_right true b e = e
and_right false b e = absurd (false≢true e)

pub or_left : (a b : Bool) → (a || b) ≡ false → a ≡ false
or_left true b e = e
or_left false b e = refl

pub or_right : (a b : Bool) → (a || b) ≡ false → b ≡ false
or_right true b e = absurd (true≢false e)
or_right false b e = e

pub not-false : (b : Bool) → not b ≡ false → b ≡ true
not-false true e = refl
not-false false e = sym e

-- where nothing is turned away, every test of the table failed
pub passed : (ts : Table) → first_that_applies ts ≡ none → All (λ t. t.0 ≡ false) ts
passed [] e = tt
passed (t ∷ ts) e = go (bool t.0) (λ q. passed ts q)
  where
    go : (t.0 ≡ true) ⊎ (t.0 ≡ false) → (first_that_applies ts ≡ none → All (λ t. t.0 ≡ false) ts) → (t.0 ≡ false) × All (λ t. t.0 ≡ false) ts
    go (inl h) r =
        let e' : some t.1 ≡ none = rw h at e in
        let z : ◌≡◌ {A = ℕ} 0 1 = cc in absurd (omega arith)
    go (inr h) r = (h, r (rw h at e))

module _ {A : Type 0} where
  pub all_true : (f : A → Bool) (l : List A) → all f l ≡ true → All (λ x. f x ≡ true) l
  all_true f [] e = tt
  all_true f (x ∷ l) e = (and_left (f x) (all f l) e, all_true f l (and_right (f x) (all f l) e))

  pub all_of : (f : A → Bool) (l : List A) → All (λ x. f x ≡ true) l → all f l ≡ true
  all_of f [] h = refl
  all_of f (x ∷ l) h = rw h.0 (all_of f l h.1)

  pub all-implied : (f h : A → Bool) → ((x : A) → f x ≡ true → h x ≡ true) → (l : List A) → all f l ≡ true → all h l ≡ true
  all-implied f h imp [] e = refl
  all-implied f h imp (x ∷ l) e = rw (imp x (and_left (f x) (all f l) e)) (all-implied f h imp l (and_right (f x) (all f l) e))

  pub all_same : (f h : A → Bool) → ((x : A) → f x ≡ h x) → (l : List A) → all f l ≡ all h l
  all_same f h e [] = refl
  all_same f h e (x ∷ l) = rw (e x, all_same f h e l)

  pub All-map : (P Q : A → Type 0) → ((x : A) → P x → Q x) → (l : List A) → All P l → All Q l
  All-map P Q f [] h = tt
  All-map P Q f (x ∷ l) h = (f x h.0, All-map P Q f l h.1)

  pub All-snoc : (P : A → Type 0) (l : List A) (x : A) → All P l → P x → All P (l ++ (x ∷ []))
  All-snoc P [] x h k = (k, tt)
  All-snoc P (y ∷ l) x h k = (h.0, All-snoc P l x h.1 k)

  pub All-left : (P : A → Type 0) (l r : List A) → All P (l ++ r) → All P l
  All-left P [] r h = tt
  All-left P (x ∷ l) r h = (h.0, All-left P l r h.1)

  pub All-right : (P : A → Type 0) (l r : List A) → All P (l ++ r) → All P r
  All-right P [] r h = h
  All-right P (x ∷ l) r h = All-right P l r h.1

  pub All-without : (P : A → Type 0) (m : A → Bool) (l : List A) → All P l → All P (without m l)
  All-without P m [] h = tt
  All-without P m (x ∷ l) h = go (m x) (All-without P m l h.1)
    where
      go : (b : Bool) → All P (without m l) → All P (cond b l (x ∷ without m l))
      go true r = h.1
      go false r = (h.0, r)

  pub first-All : (P : A → Type 0) (m : A → Bool) (l : List A) (x : A) → All P l → first m l ≡ some x → P x × (m x ≡ true)
  first-All P m [] x h e = let z : ◌≡◌ {A = ℕ} 0 1 = cc in absurd (omega arith)
  first-All P m (y ∷ l) x h e = go (bool (m y)) (first-All P m l x h.1)
    where
      go : (m y ≡ true) ⊎ (m y ≡ false) → (first m l ≡ some x → P x × (m x ≡ true)) → P x × (m x ≡ true)
      go (inl t) r =
          let e' : some y ≡ some x = rw t at e in
          let q : y ≡ x = cc in
          (subst P q h.0, sym (ap m q) ∙ t)
      go (inr t) r = r (rw t at e)

  pub without-split : (m : A → Bool) (l : List A) (x : A) (r : List A) → All (λ e. m e ≡ false) l → m x ≡ true
      → without m (l ++ (x ∷ r)) ≡ l ++ r
  without-split m [] x r h e = rw e refl
  without-split m (y ∷ l) x r h e = rw h.0 (ap (λ t. y ∷ t) (without-split m l x r h.1 e))

  pub keep_append : (p : A → Bool) (l r : List A) → keep p (l ++ r) ≡ keep p l ++ keep p r
  keep_append p [] r = refl
  keep_append p (x ∷ l) r = go (p x) (keep_append p l r)
    where
      go : (b : Bool) → keep p (l ++ r) ≡ keep p l ++ keep p r
          → cond b (x ∷ keep p (l ++ r)) (keep p (l ++ r)) ≡ cond b (x ∷ keep p l) (keep p l) ++ keep p r
      go true e = rw e
      go false e = e

  -- what is kept decides, where the rest never matches
  pub first-keep : (own m : A → Bool) (l : List A) → All (λ e. own e ≡ false → m e ≡ false) l → first m l ≡ first m (keep own l)
  first-keep own m [] h = refl
  first-keep own m (x ∷ l) h = go (bool (own x)) (first-keep own m l h.1)
    where
      go : (own x ≡ true) ⊎ (own x ≡ false) → first m l ≡ first m (keep own l) → first m (x ∷ l) ≡ first m (keep own (x ∷ l))
      go (inl t) r = rw (t, r) refl
      go (inr t) r = rw (t, h.0 t) r

  pub without-keep : (own m : A → Bool) (l : List A) → All (λ e. own e ≡ false → m e ≡ false) l
      → keep own (without m l) ≡ without m (keep own l)
  without-keep own m [] h = refl
  without-keep own m (x ∷ l) h = go (bool (own x)) (bool (m x)) (without-keep own m l h.1)
    where
      go : (own x ≡ true) ⊎ (own x ≡ false) → (m x ≡ true) ⊎ (m x ≡ false) → keep own (without m l) ≡ without m (keep own l)
          → keep own (without m (x ∷ l)) ≡ without m (keep own (x ∷ l))
      go (inl t) (inl u) r = rw (t, u) refl
      go (inl t) (inr u) r = rw (t, u) (rw (t, r) refl)
      go (inr t) v r = rw (t, h.0 t) (rw t r)

  pub without-others : (own m : A → Bool) (l : List A) → All (λ e. own e ≡ true → m e ≡ false) l
      → keep own (without m l) ≡ keep own l
  without-others own m [] h = refl
  without-others own m (x ∷ l) h = go (bool (own x)) (bool (m x)) (without-others own m l h.1)
    where
      go : (own x ≡ true) ⊎ (own x ≡ false) → (m x ≡ true) ⊎ (m x ≡ false) → keep own (without m l) ≡ keep own l
          → keep own (without m (x ∷ l)) ≡ keep own (x ∷ l)
      go (inl t) (inl u) r = clash (m x) u (h.0 t)
      go (inl t) (inr u) r = rw (u, t, r) refl
      go (inr t) (inl u) r = rw (t, u) refl
      go (inr t) (inr u) r = rw (t, u) (rw t r)

  pub keep-keep : (q own : A → Bool) → ((e : A) → q e ≡ true → own e ≡ true) → (l : List A) → keep q l ≡ keep q (keep own l)
  keep-keep q own f [] = refl
  keep-keep q own f (x ∷ l) = go (bool (own x)) (bool (q x)) (keep-keep q own f l)
    where
      go : (own x ≡ true) ⊎ (own x ≡ false) → (q x ≡ true) ⊎ (q x ≡ false) → keep q l ≡ keep q (keep own l) → keep q (x ∷ l) ≡ keep q (keep own (x ∷ l))
      go (inl t) v r = rw (t, r) refl
      go (inr t) (inl u) r = clash (own x) (f x u) t
      go (inr t) (inr u) r = rw (t, u) r

-- what is so of every word of a list is so of the one in that place
pub All-at : (P : ℕ → Type 0) (l : List ℕ) → All P l → (i : ℕ) → i < length l → P (get_or l i 0)
All-at P [] h i b = absurd (not-suc-le-zero b)
All-at P (x ∷ l) h zero b = h.0
All-at P (x ∷ l) h (suc i) b = All-at P l h.1 i (le_of_suc-le-suc b)
