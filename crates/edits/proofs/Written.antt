-- A row whose words are written from the front: what is left of it where its tail is lent.
use Prim.Native.Nat.{ℕ, ◌+◌, ◌-◌, ◌≤◌}
use mathlib.Core.Path.{◌≡◌, refl, sym, ap, ◌∙◌}
use mathlib.Core.List.{List, [], ◌∷◌, ◌++◌, append_assoc, append-nil}
use native.Mathlib.Omega.{arith}
use borrow.Rule.Slice.PartMut.{put_mid}
use lib.ListN.{length, set, take, drop, length-append, length-take, length-drop, drop_of_length-le}
use lib.Seq.{take_at}
use Rattle.rules.specs.Words.{zeros}

-- the tail from k on is ys
put-tail : (l ys : List ℕ) (k : ℕ) → put_mid k (length l - k) l ys ≡ take k l ++ ys
put-tail l ys k =
    let past : length (drop k l) ≤ length l - k = simp length-drop (omega arith) in
    rw (drop_of_length-le (drop k l) past, append-nil)

tail-length : (l : List ℕ) (k : ℕ) → length (take (length l - k) (drop k l)) ≡ length l - k
tail-length l k = simp (length-take, length-drop) (omega arith)

-- L4: six words in the front of a row
module _ (a b c d e f : ℕ) where
  abbrev headed : List ℕ → List ℕ
  headed r = set (set (set (set (set (set r 0 a) 1 b) 2 c) 3 d) 4 e) 5 f

  head-is : (r : List ℕ) → 6 ≤ length r → headed r ≡ a ∷ b ∷ c ∷ d ∷ e ∷ f ∷ drop 6 r
  head-is [] l = absurd (omega arith)
  head-is (u ∷ []) l = absurd (omega arith)
  head-is (u ∷ v ∷ []) l = absurd (omega arith)
  head-is (u ∷ v ∷ w ∷ []) l = absurd (omega arith)
  head-is (u ∷ v ∷ w ∷ x ∷ []) l = absurd (omega arith)
  head-is (u ∷ v ∷ w ∷ x ∷ y ∷ []) l = absurd (omega arith)
  head-is (u ∷ v ∷ w ∷ x ∷ y ∷ z ∷ r) l = refl

-- the fields past a head of six, and 0 past them
past-six : (h fs t q z : List ℕ) → length h ≡ 6 → length fs ≤ 8 → length t ≡ 8 - length fs → q ≡ h ++ (fs ++ t)
    → z ≡ zeros (length (take (length q - (6 + length fs)) (drop (6 + length fs) q)))
    → put_mid (6 + length fs) (length q - (6 + length fs)) q z ≡ h ++ (fs ++ zeros (8 - length fs))
past-six h fs t q z lh few lt e c =
    let n : ℕ = 6 + length fs in
    let front : length (h ++ fs) ≡ n = simp length-append (omega arith) in
    let whole : q ≡ (h ++ fs) ++ t = e ∙ sym (append_assoc h fs t) in
    let size : length q ≡ 14 = rw whole (simp length-append (omega arith)) in
    let rest : length (take (length q - n) (drop n q)) ≡ 8 - length fs = tail-length q n ∙ rw size (omega arith) in
    put-tail q z n
    ∙ rw (whole, take_at (h ++ fs) t n front, append_assoc h fs z)
    (ap (λ (l : List ℕ). h ++ (fs ++ l)) (c ∙ ap zeros rest))

-- L4: a row of 14 words in which the head was written, then the fields, then 0 past them
pub written : (a b c d e f : ℕ) (r fs s z : List ℕ) → length r ≡ 14 → length fs ≤ 8
    → let h : List ℕ = headed a b c d e f r in
    let q : List ℕ = put_mid 6 (length h - 6) h s in
    s ≡ fs ++ drop (length fs) (take (length h - 6) (drop 6 h))
    → z ≡ zeros (length (take (length q - (6 + length fs)) (drop (6 + length fs) q)))
    → put_mid (6 + length fs) (length q - (6 + length fs)) q z ≡ a ∷ b ∷ c ∷ d ∷ e ∷ f ∷ (fs ++ zeros (8 - length fs))
written a b c d e f r fs s z len few is cleared =
    let h : List ℕ = headed a b c d e f r in
    let rest : List ℕ = drop (length fs) (take (length h - 6) (drop 6 h)) in
    let size : length h ≡ 14 = rw (head-is a b c d e f r (omega arith)) (simp length-drop (omega arith)) in
    let left : length rest ≡ 8 - length fs = simp (length-drop, length-take) (omega arith) in
    let six : put_mid 6 (length h - 6) h s ≡ a ∷ b ∷ c ∷ d ∷ e ∷ f ∷ s = put-tail h s 6 ∙ rw (head-is a b c d e f r (omega arith)) refl in
    past-six (a ∷ b ∷ c ∷ d ∷ e ∷ f ∷ []) fs rest (put_mid 6 (length h - 6) h s) z refl few left
    (six ∙ ap (λ (l : List ℕ). a ∷ b ∷ c ∷ d ∷ e ∷ f ∷ l) is) cleared
