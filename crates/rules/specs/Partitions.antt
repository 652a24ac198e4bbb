-- What the partition word of a pair stands for. The rules don't ask: they are one text for every reading of it.
use Rattle.std.specs.Prelude.{Bool, not, List, [], ◌∷◌, map, ℕ, ◌^◌, leb, eqb}
use Rattle.rules.specs.Lists.{any}
use Rattle.rules.specs.Names.{Name, partition, bit, bits_in}

pub record Reading : Type 0 where
  -- S6, R4: the words that may stand in a pair
  pub in_range : ℕ → Bool
  -- C6, R13: the names that a word stands for
  pub names : ℕ → List Name
  -- M3: a template's word agrees with an entry's
  pub agree : ℕ → ℕ → Bool

-- N6: the set of one partition
abbrev pub only : ℕ → ℕ
only c = 2 ^ c

-- N6, S6, R4: a set is in range unless it is empty
abbrev pub set_in_range : ℕ → Bool
set_in_range set = not (eqb set 0)

-- N6, C6, R13: the names of a set: every partition in it
unfoldable pub set_names : ℕ → List Name
set_names set = map partition (bits_in set)

-- M3, M6: two sets agree if they share a partition
unfoldable pub sets_agree : ℕ → ℕ → Bool
sets_agree t e = any (bit e) (bits_in t)

-- N6: the word is a set of partitions ("combined partitions" in the papers). This is how the calls on words read it
abbrev pub sets : Reading
sets = record { in_range = set_in_range; names = set_names; agree = sets_agree }

-- M7: the word is the number of a single partition, 0 to 63, and two agree if they are the same. This is what sets of one partition
-- are compared with
abbrev pub singles : Reading
singles = record { in_range = λ c. leb c 63; names = λ c. partition c ∷ []; agree = λ t e. eqb e t }
