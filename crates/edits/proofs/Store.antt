-- Words written one after another from the front: at i the first i are those of a list f, and the rest are as they were in d.
use Prim.Native.Nat.{ℕ, zero, suc, ◌+◌, ◌≤◌, ◌<◌}
use mathlib.Core.Path.{◌≡◌, refl, ap, ◌∙◌}
use mathlib.Core.List.{List, [], ◌∷◌, ◌++◌, append-nil}
use native.Mathlib.Nat.{le_of_suc-le-suc, not-suc-le-zero, add_comm}
use native.Mathlib.Numerals.{add-one}
use native.Mathlib.Omega.{arith}
use lib.ListN.{length, take, drop, get_or, set, length-take, length-drop, drop_of_length-le}
use lib.Seq.{get_or-append-add, get_or-drop}

store-suc : (f d : List ℕ) (i : ℕ) → i < length f → i < length d → set (take i f ++ drop i d) i (get_or f i 0) ≡ take (suc i) f ++ drop (suc i) d
store-suc [] d i h k = absurd (not-suc-le-zero h)
store-suc (x ∷ xs) [] i h k = absurd (not-suc-le-zero k)
store-suc (x ∷ xs) (y ∷ ys) zero h k = refl
store-suc (x ∷ xs) (y ∷ ys) (suc i) h k = ap (λ (l : List ℕ). x ∷ l) (store-suc xs ys i (le_of_suc-le-suc h) (le_of_suc-le-suc k))

-- a turn's store takes i elements of f to one more
pub store : (f d p : List ℕ) (i v : ℕ) → p ≡ take i f ++ drop i d → v ≡ get_or f i 0 → i < length f → i < length d → set p i v ≡ take (i + 1) f ++ drop (i + 1) d
store f d p i v h e l m = rw (h, e, add-one) (store-suc f d i l m)

-- the element past the seam
past-seam : (xs ys : List ℕ) (i n : ℕ) → length xs ≡ i → get_or (xs ++ ys) (i + n) 0 ≡ get_or ys n 0
past-seam xs ys i n e = rw (← e) (get_or-append-add xs ys n 0)

-- a list that is moved up by k from the front
pub move-more : (d p : List ℕ) (i k : ℕ) → p ≡ take i (drop k d) ++ drop i d → i + k < length d
    → set p i (get_or p (i + k) 0) ≡ take (i + 1) (drop k d) ++ drop (i + 1) d
move-more d p i k h l =
    let n : length (take i (drop k d)) ≡ i = simp (length-take, length-drop) (omega arith) in
    let v : get_or p (i + k) 0 ≡ get_or (drop k d) i 0 =
    rw (h, past-seam (take i (drop k d)) (drop i d) i k n, get_or-drop i d k 0, get_or-drop k d i 0) (ap (λ (j : ℕ). get_or d j 0) (add_comm i k)) in
    store (drop k d) d p i _ h v (simp length-drop (omega arith)) (omega arith)

-- as many words come in the place of all that there are
pub all-replaced : (src dst : List ℕ) → length dst ≡ length src → src ++ drop (length src) dst ≡ src
all-replaced src dst e =
    let l : length dst ≤ length src = omega arith in
    ap (λ (r : List ℕ). src ++ r) (drop_of_length-le dst l) ∙ append-nil src
