-- The fields of a reply.
use Prim.Native.Nat.{ℕ}
use mathlib.Core.Path.{◌≡◌, refl}
use mathlib.Core.List.{List}
use lib.ListN.{take}
use Rattle.rules.specs.Calls.{Answer, done, found, nothing, refused}
use Rattle.rules.specs.Runs.{found_in}
use Rattle.session.specs.Steps.{count_of}

-- G8: as many of the result words as the answer counts
pub found-fields : (a : Answer) (result : List ℕ) → take (count_of a) result ≡ found_in a result
found-fields done result = refl
found-fields (found n) result = refl
found-fields nothing result = refl
found-fields (refused n) result = refl
