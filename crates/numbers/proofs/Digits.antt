-- Reading a number digit by digit: what is left to read, with the value so far, decides; a value past the most never comes back.
use Prim.Native.Nat.{ℕ, ◌+◌, ◌-◌, ◌*◌, ◌≤◌, ◌<◌}
use mathlib.Core.Path.{◌≡◌, refl, ◌∙◌}
use mathlib.Core.Logic.{◌⊎◌, inl, inr}
use mathlib.Core.Bool.{Bool, true, false, cond}
use mathlib.Core.List.{List, [], ◌∷◌}
use mathlib.Core.Option.{none, some}
use native.Mathlib.Nat.{le_refl, le_trans}
use native.Mathlib.Numerals.{add-one}
use native.Mathlib.Omega.{arith}
use borrow.Author.Tests.{lt-leb, le-leb, leb-true, leb-false}
use lib.Dec.{leb}
use lib.ListN.{length, get_or, drop, drop_of_length-le}
use lib.Seq.{drop-cons}
use Rattle.std.specs.Prelude.{Result, Ok, Err}
use Rattle.rules.specs.Lists.{all}
use Rattle.rules.proofs.ListLaws.{bool, and_left, and_right}
use Rattle.numbers.specs.Numbers.{is_digit, value_from, starts_well, natural}
use Rattle.numbers.specs.Answers.{natural_of, with_digit}
use Rattle.numbers.specs.declared.NumberError.{NumberError}
use Rattle.numbers.specs.declared.NumberError.TheVariants.{Large, Unreadable}

-- what the bytes come to after digits of value v
unfoldable pub read_on : ℕ → ℕ → List ℕ → Result ℕ NumberError
read_on most v bs = natural_of most (cond (all is_digit bs) (some (value_from v bs)) none)

pub starts : (most : ℕ) (bs : List ℕ) → starts_well bs ≡ true → natural_of most (natural bs) ≡ read_on most 0 bs
unfolding natural read_on
starts most bs e = rw e

pub starts-ill : (most : ℕ) (bs : List ℕ) → starts_well bs ≡ false → natural_of most (natural bs) ≡ Err Unreadable
unfolding natural natural_of
starts-ill most bs e = rw e

grows : (v : ℕ) (bs : List ℕ) → v ≤ value_from v bs
grows v [] = le_refl v
grows v (b ∷ bs) = let h : v ≤ 10 * v + (b - 48) = omega arith in le_trans h (grows (10 * v + (b - 48)) bs)

-- past the most only the form of what follows counts
past : (most v w : ℕ) (bs : List ℕ) → most < v → most < w → read_on most v bs ≡ read_on most w bs
unfolding read_on natural_of
past most v w bs h k = go (all is_digit bs)
  where
    go : (b : Bool) → natural_of most (cond b (some (value_from v bs)) none) ≡ natural_of most (cond b (some (value_from w bs)) none)
    go true = let g = grows v bs in let l = grows w bs in rw (lt-leb (value_from v bs) most (omega arith), lt-leb (value_from w bs) most (omega arith))
    go false = refl

next : (most v b : ℕ) (bs : List ℕ) → is_digit b ≡ true → read_on most v (b ∷ bs) ≡ read_on most (with_digit most v b) bs
unfolding read_on
next most v b bs e = go (bool (leb v most))
  where
    one : read_on most v (b ∷ bs) ≡ read_on most (10 * v + (b - 48)) bs
    one = rw e

    go : (leb v most ≡ true) ⊎ (leb v most ≡ false) → read_on most v (b ∷ bs) ≡ read_on most (with_digit most v b) bs
    go (inl q) = rw q one
    go (inr q) = let l = leb-false v most q in rw q (one ∙ past most (10 * v + (b - 48)) v bs (omega arith) (omega arith))

module _ (most v : ℕ) (text : List ℕ) (i : ℕ) where
  pub digit-next : i < length text → is_digit (get_or text i 0) ≡ true
      → read_on most v (drop i text) ≡ read_on most (with_digit most v (get_or text i 0)) (drop (i + 1) text)
  digit-next h e = rw (add-one, drop-cons text i 0) (next most v _ _ e)

  pub no_digit : i < length text → is_digit (get_or text i 0) ≡ false → read_on most v (drop i text) ≡ Err Unreadable
  unfolding read_on natural_of
  no_digit h e = rw (drop-cons text i 0) (rw e)

  pub ends : length text ≤ i → v ≤ most → read_on most v (drop i text) ≡ Ok v
  unfolding read_on natural_of
  ends h l = rw (drop_of_length-le text h) (rw (le-leb v most l))

  pub ends-past : length text ≤ i → most < v → read_on most v (drop i text) ≡ Err Large
  unfolding read_on natural_of
  ends-past h l = rw (drop_of_length-le text h) (rw (lt-leb v most l))

pub digit_low : (b : ℕ) → is_digit b ≡ true → 48 ≤ b
digit_low b e = leb-true 48 b (and_left (leb 48 b) (leb b 57) e)

pub digit-high : (b : ℕ) → is_digit b ≡ true → b ≤ 57
digit-high b e = leb-true b 57 (and_right (leb 48 b) (leb b 57) e)

-- it stays below what 64 bits hold
pub digit-bound : (most v b : ℕ) → is_digit b ≡ true → v ≤ 10 * most + 9 → with_digit most v b ≤ 10 * most + 9
digit-bound most v b e h = go (bool (leb v most))
  where
    go : (leb v most ≡ true) ⊎ (leb v most ≡ false) → with_digit most v b ≤ 10 * most + 9
    go (inl q) = let l = leb-true v most q in let k = digit-high b e in rw q (omega arith)
    go (inr q) = rw q h
