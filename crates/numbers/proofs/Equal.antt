-- Equal texts, byte by byte.
use mathlib.Core.Path.{◌≡◌, refl, ap, ap₂}
use mathlib.Core.Bool.{true, false, and-false}
use mathlib.Core.List.{List, [], ◌∷◌}
use Prim.Native.Nat.{ℕ, suc, ◌+◌, ◌≤◌, ◌<◌}
use native.Mathlib.Numerals.{add-one}
use native.Mathlib.Omega.{arith}
use borrow.Author.Tests.{eq-eqb, ne_eqb, eqb-true}
use lib.Dec.{eqb}
use lib.ListN.{length, get_or, drop, drop_of_length-le}
use lib.Seq.{drop-cons}
use Rattle.rules.proofs.ListLaws.{and_left, and_right}
use Rattle.numbers.specs.Parts.{same}

pub other_length : (a b : List ℕ) → (length a ≡ length b → ⊥) → same a b ≡ false
other_length [] [] n = absurd (n refl)
other_length [] (y ∷ b) n = refl
other_length (x ∷ a) [] n = refl
other_length (x ∷ a) (y ∷ b) n = rw (other_length a b (λ e. n (ap suc e))) (and-false (eqb x y))

module _ (a b : List ℕ) (i : ℕ) (l : i < length a) (k : i < length b) where
  pub byte-agrees : get_or a i 0 ≡ get_or b i 0 → same (drop i a) (drop i b) ≡ same (drop (i + 1) a) (drop (i + 1) b)
  byte-agrees e = rw (add-one, drop-cons a i 0, drop-cons b i 0) (rw (eq-eqb (get_or a i 0) (get_or b i 0) e))

  pub byte-differs : (get_or a i 0 ≡ get_or b i 0 → ⊥) → same (drop i a) (drop i b) ≡ false
  byte-differs n = rw (drop-cons a i 0, drop-cons b i 0) (rw (ne_eqb (get_or a i 0) (get_or b i 0) n))

pub none-differs : (a b : List ℕ) (i : ℕ) → length a ≤ i → length b ≤ i → same (drop i a) (drop i b) ≡ true
none-differs a b i l k = rw (drop_of_length-le a l, drop_of_length-le b k)

-- the test is that of equality
pub same-equal : (a b : List ℕ) → same a b ≡ true → a ≡ b
same-equal [] [] e = refl
same-equal [] (y ∷ b) e = let z : ◌≡◌ {A = ℕ} 0 1 = cc in absurd (omega arith)
same-equal (x ∷ a) [] e = let z : ◌≡◌ {A = ℕ} 0 1 = cc in absurd (omega arith)
same-equal (x ∷ a) (y ∷ b) e = ap₂ ◌∷◌ (eqb-true x y (and_left (eqb x y) (same a b) e)) (same-equal a b (and_right (eqb x y) (same a b) e))

pub equal-same : (a : List ℕ) → same a a ≡ true
equal-same [] = refl
equal-same (x ∷ a) = rw (eq-eqb x x refl) (equal-same a)
