-- A code's answer, taken back to the rules'.
use mathlib.Core.Path.{◌≡◌, refl, ap}
use mathlib.Core.Option.{Option, none, some}
use Prim.Native.Nat.{ℕ}
use native.Mathlib.Omega.{arith}
use Rattle.std.specs.Prelude.{Some, None}
use Rattle.refusal.specs.Given.{given}

pub not-given : {A : Type 0} (o : Option A) → None ≡ given o → o ≡ none
not-given none e = refl
not-given (some x) e = let z : ◌≡◌ {A = ℕ} 0 1 = cc in absurd (omega arith)

pub was-given : {A : Type 0} (o : Option A) (x : A) → Some x ≡ given o → o ≡ some x
was-given none x e = let z : ◌≡◌ {A = ℕ} 0 1 = cc in absurd (omega arith)
was-given {A} (some y) x e = let z : y ≡ x = cc in ap some z
