-- The code's pairs, as the pairs that they stand for.
use Rattle.std.specs.Prelude.{ℕ, ℤ}
use Rattle.rules.specs.Matching as matching
use Rattle.words.specs.declared.Pair.{Pair}
use Rattle.words.specs.declared.StoredPair.{StoredPair}

-- E1, E2: a pair as a call names it
abbrev pub meant : Pair → matching.Pair ℤ
meant p = matching.pair p.partitions p.key

-- E1: a pair as an entry has it
abbrev pub meant_stored : StoredPair → matching.Pair ℕ
meant_stored p = matching.pair p.partitions p.key
