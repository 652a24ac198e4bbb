-- Sets of partitions, read from bytes, and as they are written.
use Rattle.std.specs.Prelude.{cond, List, [], ◌∷◌, ◌++◌, ℕ, suc, leb}
use Rattle.std.proofs.Math.Option.{Option, none, some}
use Rattle.rules.specs.Names.{bits_in, with_bit}
use Rattle.numbers.specs.Numbers.{natural, decimal}
use Rattle.numbers.specs.Parts.{parts}
use Rattle.text.specs.Numbers.{up_to}

-- T16: a number that is not below the least
abbrev pub not_below : ℕ → Option ℕ → Option ℕ
not_below least none = none
not_below least (some c) = cond (leb least c) (some c) none

-- T16: a partition that is not below the least: a natural number from 0 to 63
abbrev pub partition_from : ℕ → List ℕ → Option ℕ
partition_from least text = not_below least (up_to 63 (natural text))

-- T16: what follows from a partition, where one was read
abbrev pub and_then : Option ℕ → (ℕ → Option ℕ) → Option ℕ
and_then none f = none
and_then (some c) f = f c

-- T16: the set with each part's partition added: the first is not below the least, and each other is above the one before it
abbrev pub set_from : ℕ → ℕ → List (List ℕ) → Option ℕ
set_from least set [] = some set
set_from least set (p ∷ ps) = and_then (partition_from least p) (λ c. set_from (suc c) (with_bit set c) ps)

-- T16: partitions joined by colons (58), each once, smallest first
unfoldable pub read_partitions : List ℕ → Option ℕ
read_partitions text = set_from 0 0 (parts 58 text)

-- T16: further partitions, each after a colon
abbrev pub more_text : List ℕ → List ℕ
more_text [] = []
more_text (c ∷ cs) = 58 ∷ (decimal c ++ more_text cs)

-- T16: partitions joined by colons
abbrev pub partitions_text : List ℕ → List ℕ
partitions_text [] = []
partitions_text (c ∷ cs) = decimal c ++ more_text cs

-- T16: a set as it is written: its partitions, smallest first
unfoldable pub set_text : ℕ → List ℕ
set_text set = partitions_text (bits_in set)
