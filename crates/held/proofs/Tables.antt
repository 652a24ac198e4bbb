-- Going down a table: a test that applies decides, and one that does not leaves the rest to decide.
use Prim.Native.Nat.{ℕ}
use mathlib.Core.Path.{◌≡◌, refl}
use mathlib.Core.Bool.{Bool, true, false}
use mathlib.Core.List.{[], ◌∷◌}
use Rattle.std.specs.Prelude.{Result, Ok, Err}
use Rattle.rules.specs.Calls.{Table, held_tests}
use Rattle.held.specs.Verdicts.{verdict}

module _ (b : Bool) (n : ℕ) (ts : Table) where
  pub decides : b ≡ true → Err n ≡ verdict ((b, n) ∷ ts)
  unfolding verdict
  decides h = rw h refl

  pub leaves : (v : Result (Unit {0}) ℕ) → b ≡ false → v ≡ verdict ts → v ≡ verdict ((b, n) ∷ ts)
  unfolding verdict
  leaves v h e = rw h e

pub passes : Ok tt ≡ verdict []
unfolding verdict
passes = refl

-- the tests of names, by what is held
pub names-by : {a k f x y z : Bool} (v : Result (Unit {0}) ℕ) → a ≡ x → k ≡ y → f ≡ z → v ≡ verdict (held_tests a k f) → v ≡ verdict (held_tests x y z)
names-by v p q r e = rw (p, q, r) at e
