-- The console's numbers: what is printed reads back.
use Prim.Native.Nat.{ℕ, ◌≤◌}
use mathlib.Core.Path.{◌≡◌, refl, ap, ◌∙◌}
use mathlib.Core.Logic.{◌⊎◌, inl, inr}
use mathlib.Core.Bool.{true, false}
use mathlib.Core.Option.{Option, none, some}
use borrow.Author.Tests.{le-leb}
use lib.Dec.{leb}
use lib.IntN.{ℤ}
use Rattle.rules.specs.Names.{key_in_range}
use Rattle.rules.proofs.ListLaws.{bool}
use Rattle.numbers.specs.Numbers.{decimal, decimal_key}
use Rattle.refusal.specs.Given.{given}
use Rattle.numbers.specs.Answers.{natural_of, whole_of, fits}
use Rattle.std.specs.Result.{result_ok}
use Rattle.numbers.proofs.Keys.{key_fits}
use Rattle.numbers.proofs.NumbersBack.{natural-back, whole_back}
use Rattle.text.specs.Numbers.{up_to, unsigned, fitting, signed}

pub number-back : (v : ℕ) → v ≤ 4294967295 → unsigned (decimal v) ≡ some v
unfolding unsigned
number-back v h = ap (up_to 4294967295) (natural-back v) ∙ rw (le-leb v 4294967295 h)

pub key_back : (k : ℤ) → key_in_range k ≡ true → signed (decimal_key k) ≡ some k
unfolding signed
key_back k h = ap fitting (whole_back k) ∙ rw (key_fits k h)

-- ---- what the readers of numbers of any length come to

pub ok-natural : (most : ℕ) (o : Option ℕ) → result_ok (natural_of most o) ≡ given (up_to most o)
unfolding natural_of
ok-natural most none = refl
ok-natural most (some v) = go (bool (leb v most))
  where
    go : (leb v most ≡ true) ⊎ (leb v most ≡ false) → result_ok (natural_of most (some v)) ≡ given (up_to most (some v))
    go (inl e) = rw e
    go (inr e) = rw e

pub ok-whole : (o : Option ℤ) → result_ok (whole_of o) ≡ given (fitting o)
unfolding whole_of
ok-whole none = refl
ok-whole (some k) = go (bool (fits k))
  where
    go : (fits k ≡ true) ⊎ (fits k ≡ false) → result_ok (whole_of (some k)) ≡ given (fitting (some k))
    go (inl e) = rw e
    go (inr e) = rw e
