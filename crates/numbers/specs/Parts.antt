-- The parts of a text, and texts compared.
use Rattle.std.specs.Prelude.{Bool, true, false, ◌&&◌, cond, List, [], ◌∷◌, ℕ, eqb}

-- T7: the bytes before the first separator
abbrev pub before : ℕ → List ℕ → List ℕ
before sep [] = []
before sep (b ∷ bs) = cond (eqb b sep) [] (b ∷ before sep bs)

-- T7: the parts after the first separator
abbrev pub beyond : ℕ → List ℕ → List (List ℕ)
beyond sep [] = []
beyond sep (b ∷ bs) = cond (eqb b sep) (before sep bs ∷ beyond sep bs) (beyond sep bs)

-- T7: the parts of a text that its separators stand between
abbrev pub parts : ℕ → List ℕ → List (List ℕ)
parts sep bs = before sep bs ∷ beyond sep bs

-- the same bytes
abbrev pub same : List ℕ → List ℕ → Bool
same [] [] = true
same [] (b ∷ bs) = false
same (a ∷ l) [] = false
same (a ∷ l) (b ∷ bs) = eqb a b && same l bs
