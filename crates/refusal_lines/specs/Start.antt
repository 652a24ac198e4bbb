-- The space that the examples begin with.
use Rattle.std.specs.Prelude.{List, [], ◌∷◌, ℕ}
use Rattle.rules.specs.Words.{zeros, opening}

-- party 0 holds partition 5 and key 4, and party 1 partitions 0 and 5 and key -4
unfoldable pub roster : List ℕ
roster = 32 ∷ 33 ∷ 0 ∷ 0 ∷ 0 ∷ 0 ∷ 0 ∷ 0 ∷ 34359738368 ∷ 134217728 ∷ 0 ∷ 0 ∷ 0 ∷ 0 ∷ 0 ∷ 0 ∷ []

-- C1
unfoldable pub opened : List ℕ
opened = (opening (zeros 1809) roster).space
