-- What a list of starts says of a row.
use Rattle.std.specs.Prelude.{cond, List, [], ◌∷◌, ℕ, suc, eqb}

-- the entry for that row in a list whose first entry is for row `first`; for another row, what stands beyond the list
unfoldable pub listed : List ℕ → ℕ → ℕ → ℕ → ℕ
listed [] first row beyond = beyond
listed (x ∷ xs) first row beyond = cond (eqb row first) x (listed xs (suc first) row beyond)
