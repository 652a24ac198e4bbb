-- The state that a space's words stand for: what each party holds, and the live entries, oldest first.
use Rattle.std.specs.Prelude.{Bool, List, [], ◌∷◌, ℕ, eqb, length, get_or}
use Rattle.rules.specs.Lists.{all, keep}
use Rattle.rules.specs.Names.{parties, Name, partition, key, held_in, set_bit}
use Rattle.rules.specs.Matching.{Entry}

-- L1 to L4: one partition word and one key word for each party
pub record State : Type 0 where
  pub partitions : List ℕ
  pub keys : List ℕ
  pub entries : List Entry

-- L2, L3: the party holds the name
unfoldable pub holds : State → ℕ → Name → Bool
holds s who n = held_in (get_or s.partitions who 0) (get_or s.keys who 0) n

-- C3: the party holds the name from now on
unfoldable pub give : ℕ → Name → State → State
give who (partition c) s =
    record { partitions = set_bit who c s.partitions; keys = s.keys; entries = s.entries }
give who (key k) s =
    record { partitions = s.partitions; keys = set_bit who k s.keys; entries = s.entries }

abbrev pub give_all : ℕ → List Name → State → State
give_all who [] s = s
give_all who (n ∷ ns) s = give_all who ns (give who n s)

-- C1: each of these parties holds the names from now on
abbrev pub give_each : List ℕ → List Name → State → State
give_each [] ns s = s
give_each (who ∷ whos) ns s = give_each whos ns (give_all who ns s)

-- S4: everyone holds the names
abbrev pub everyone_holds : List Name → State → Bool
everyone_holds ns s = all (λ who. all (holds s who) ns) parties

abbrev pub with_entries : List Entry → State → State
with_entries es s = record { partitions = s.partitions; keys = s.keys; entries = es }

abbrev pub wrote : ℕ → Entry → Bool
wrote who e = eqb e.writer who

-- A1: how many entries the party is charged with
unfoldable pub live : ℕ → List Entry → ℕ
live who es = length (keep (wrote who) es)

-- A1: how many it may have
abbrev pub limit_of : State → ℕ → ℕ
limit_of s who = 16
