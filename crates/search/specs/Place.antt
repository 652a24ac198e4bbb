-- What the search answers: the place of the first match in a list of entries.
use Rattle.std.specs.Prelude.{Bool, cond, List, [], ◌∷◌, ℕ, suc, Option, Some, None}
use Rattle.rules.specs.Matching as matching
use Rattle.search.specs.declared.Op.{Op}
use Rattle.search.specs.declared.Op.TheVariants.{Looking, Receiving, Taking}

-- C3, C4, C8: the code's operations, as those that they stand for
abbrev pub meant : Op → matching.Op
meant Looking = matching.looking
meant Receiving = matching.receiving
meant Taking = matching.taking

abbrev pub later : Option ℕ → Option ℕ
later (Some i) = Some (suc i)
later None = None

-- M5: how many entries are older than the oldest match, if there is one
abbrev pub place : (matching.Entry → Bool) → List matching.Entry → Option ℕ
place m [] = None
place m (e ∷ es) = cond (m e) (Some 0) (later (place m es))
