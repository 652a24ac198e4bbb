-- Whole numbers: which part of the text is read, and what a minus makes of it.
use Prim.Native.Nat.{ℕ, zero, suc, ◌-◌}
use mathlib.Core.Path.{◌≡◌, refl, sym, ap, ◌∙◌}
use mathlib.Core.Logic.{◌⊎◌, inl, inr}
use mathlib.Core.Bool.{true, false}
use mathlib.Core.List.{List, [], ◌∷◌}
use mathlib.Core.Option.{Option, none, some}
use native.Mathlib.Omega.{arith}
use borrow.Author.Tests.{le-leb, lt-leb, leb-true, leb-false}
use lib.Dec.{eqb, leb}
use lib.IntN.{ℤ, pos, negsuc, neg_ℤ}
use lib.ListN.{length, take, drop, length-drop}
use Rattle.std.proofs.Math.Seq.{take_all}
use Rattle.std.specs.Prelude.{Result, Ok, Err}
use Rattle.rules.proofs.ListLaws.{bool}
use Rattle.numbers.specs.Parts.{same}
use Rattle.numbers.specs.Numbers.{natural, positive, negative, whole}
use Rattle.numbers.specs.Answers.{natural_of, whole_of}
use Rattle.numbers.specs.declared.NumberError.{NumberError}
use Rattle.numbers.specs.declared.NumberError.TheVariants.{Unreadable}

whole-minus : (t : List ℕ) → same (take 1 t) (45 ∷ []) ≡ true → whole t ≡ negative (natural (drop 1 t))
unfolding whole
whole-minus [] e = let z : ◌≡◌ {A = ℕ} 0 1 = cc in absurd (omega arith)
whole-minus (b ∷ bs) e = go (bool (eqb b 45))
  where
    go : (eqb b 45 ≡ true) ⊎ (eqb b 45 ≡ false) → whole (b ∷ bs) ≡ negative (natural bs)
    go (inl q) = rw q
    go (inr q) = let f : false ≡ true = rw q at e in let z : ◌≡◌ {A = ℕ} 0 1 = cc in absurd (omega arith)

whole-plus : (t : List ℕ) → same (take 1 t) (45 ∷ []) ≡ false → whole t ≡ positive (natural t)
unfolding whole natural
whole-plus [] e = refl
whole-plus (b ∷ bs) e = go (bool (eqb b 45))
  where
    go : (eqb b 45 ≡ true) ⊎ (eqb b 45 ≡ false) → whole (b ∷ bs) ≡ positive (natural (b ∷ bs))
    go (inl q) = let f : true ≡ false = rw q at e in let z : ◌≡◌ {A = ℕ} 0 1 = cc in absurd (omega arith)
    go (inr q) = rw q

-- ---- the reader's answer, without a minus before it and with one

abbrev pub positive_in : Result ℕ NumberError → Result ℤ NumberError
positive_in (Err e) = Err e
positive_in (Ok v) = Ok (pos v)

abbrev pub negative_in : Result ℕ NumberError → Result ℤ NumberError
negative_in (Err e) = Err e
negative_in (Ok zero) = Err Unreadable
negative_in (Ok (suc v)) = Ok (negsuc v)

positive_of : (o : Option ℕ) → positive_in (natural_of 2147483647 o) ≡ whole_of (positive o)
unfolding natural_of whole_of
positive_of none = refl
positive_of (some v) = go (bool (leb v 2147483647))
  where
    go : (leb v 2147483647 ≡ true) ⊎ (leb v 2147483647 ≡ false) → positive_in (natural_of 2147483647 (some v)) ≡ whole_of (positive (some v))
    go (inl e) = rw e
    go (inr e) = rw e

negative_of : (o : Option ℕ) → negative_in (natural_of 2147483648 o) ≡ whole_of (negative o)
unfolding natural_of whole_of
negative_of none = refl
negative_of (some zero) = refl
negative_of (some (suc v)) = go (bool (leb v 2147483647))
  where
    go : (leb v 2147483647 ≡ true) ⊎ (leb v 2147483647 ≡ false) → negative_in (natural_of 2147483648 (some (suc v))) ≡ whole_of (negative (some (suc v)))
    go (inl e) = rw (e, le-leb (suc v) 2147483648 (let l = leb-true v 2147483647 e in omega arith))
    go (inr e) = rw (e, lt-leb (suc v) 2147483648 (let l = leb-false v 2147483647 e in omega arith))

pub negative-some : (v : ℕ) → (v ≡ 0 → ⊥) → negative_in (Ok v) ≡ Ok (neg_ℤ (pos v))
negative-some zero h = absurd (h refl)
negative-some (suc n) h = refl

pub plus-read : (t : List ℕ) → same (take 1 t) (45 ∷ []) ≡ false → positive_in (natural_of 2147483647 (natural t)) ≡ whole_of (whole t)
plus-read t h = positive_of (natural t) ∙ ap whole_of (sym (whole-plus t h))

pub minus-read : (t s : List ℕ) → same (take 1 t) (45 ∷ []) ≡ true → s ≡ drop 1 t → negative_in (natural_of 2147483648 (natural s)) ≡ whole_of (whole t)
minus-read t s h e = rw e (negative_of (natural (drop 1 t)) ∙ ap whole_of (sym (whole-minus t h)))

-- what stands after the minus, as a slice of the text reads
pub after_minus : (t : List ℕ) → take (length t - 1) (drop 1 t) ≡ drop 1 t
after_minus t = take_all (length t - 1) (drop 1 t) (simp length-drop (omega arith))
