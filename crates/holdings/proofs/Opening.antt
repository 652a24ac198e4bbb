-- The words of an opening: a function of each word, two parts put one after the other into a list, and the part past them cleared.
use Prim.Native.Nat.{ℕ, zero, suc, ◌+◌, ◌-◌, ◌≤◌, ◌<◌}
use mathlib.Core.Path.{◌≡◌, refl, ap, ◌∙◌}
use mathlib.Core.List.{List, [], ◌∷◌, ◌++◌, map, append_assoc, append-nil}
use native.Mathlib.Omega.{arith}
use native.Mathlib.Nat.{le_of_suc-le-suc}
use lib.ListN.{length, take, drop, get_or, set, length-append, length-take, length-drop, drop_of_length-le}
use lib.Seq.{take_at, drop_at, drop-drop}
use Rattle.rules.specs.Words.{zeros}

-- a word of the mapped list
pub at_map : (f : ℕ → ℕ) (l : List ℕ) (i : ℕ) → i < length l → f (get_or l i 0) ≡ get_or (map f l) i 0
at_map f [] i h = absurd (omega arith)
at_map f (x ∷ xs) zero h = refl
at_map f (x ∷ xs) (suc i) h = at_map f xs i (le_of_suc-le-suc h)

-- two parts put into a list, one after the other. The counts are variables, since at numerals `take` and `drop` compute and `rw` finds nothing
pub mid-mid : (z a b : List ℕ) (i k m : ℕ) → i ≤ length z → length a ≡ k
    → take (i + k) (take i z ++ (a ++ drop k (drop i z))) ++ (b ++ drop m (drop (i + k) (take i z ++ (a ++ drop k (drop i z)))))
    ≡ (take i z ++ a) ++ (b ++ drop m (drop k (drop i z)))
mid-mid z a b i k m h e =
    let len : length (take i z ++ a) ≡ i + k = simp (length-append, length-take) (omega arith) in
    let rest : List ℕ = drop k (drop i z) in
    rw (← append_assoc (take i z) a rest, take_at (take i z ++ a) rest (i + k) len, drop_at (take i z ++ a) rest (i + k) len)

-- the n words from k on, which are the last, cleared as the part of the space that is lent
pub past-cleared : (s z : List ℕ) (k n : ℕ) {at end : ℕ} → at ≡ k → end ≡ k + n → length s ≡ k + n → z ≡ zeros (length (take (end - at) (drop at s)))
    → drop k (take at s ++ (z ++ drop (end - at) (drop at s))) ≡ zeros n
past-cleared s z k n from to len e =
    let front : length (take k s) ≡ k = simp length-take (omega arith) in
    let size : length (take (k + n - k) (drop k s)) ≡ n = simp (length-take, length-drop) (omega arith) in
    let none : length (drop k s) ≤ k + n - k = simp length-drop (omega arith) in
    let cleared : z ≡ zeros (length (take (k + n - k) (drop k s))) = rw (from, to) at e in
    rw (from, to)
    (drop_at (take k s) (z ++ drop (k + n - k) (drop k s)) k front
    ∙ rw (drop_of_length-le (drop k s) none, append-nil z)
    (cleared ∙ ap zeros size))

-- the two parts and the count, on a space whose rows are cleared
pub on-cleared : (z a b : List ℕ) → 1 ≤ length z → drop 17 z ≡ zeros 1792
    → set ((take 1 z ++ a) ++ (b ++ drop 8 (drop 8 (drop 1 z)))) 0 0 ≡ 0 ∷ (a ++ (b ++ zeros 1792))
on-cleared [] a b h e = absurd (omega arith)
on-cleared (x ∷ xs) a b h e = ap (λ (l : List ℕ). 0 ∷ (a ++ (b ++ l))) (drop-drop 8 8 xs ∙ e)
