-- The answers of calls are small enough for a code.
use mathlib.Core.Path.{◌≡◌, sym, ap, subst}
use mathlib.Core.List.{List}
use Prim.Native.Nat.{ℕ}
use Rattle.rules.specs.Calls.{Answer}
use Rattle.rules.specs.Words.{Exit, exit}
use Rattle.space.specs.Answers.{Small}

-- what a call's contract says of its answer is small, so its answer is
pub small : (a : Answer) (ws result : List ℕ) (x : Exit) → exit a ws result ≡ x → Small x.answer → Small a
small a ws result x e h = subst Small (sym (ap (λ (y : Exit). y.answer) e)) h
