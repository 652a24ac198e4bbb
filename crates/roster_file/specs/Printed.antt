-- What is printed of a roster, and the program's whole output as a function of its whole input.
use Rattle.std.specs.Prelude.{List, [], ◌∷◌, ◌++◌, map, ℕ, ◌+◌, get_or}
use Rattle.rules.specs.Names.{parties, Name, partition, key, bits_in}
use Rattle.numbers.specs.Numbers.{decimal, decimal_key, key_of, refusal_text}
use Rattle.roster_file.specs.File.{Outcome, accepted, refused, names_line, read_file}

-- D6: the names in a partition word and a key word: partitions before keys, smallest number first
abbrev pub names_in : ℕ → ℕ → List Name
names_in partitions keys = map partition (bits_in partitions) ++ map key (bits_in keys)

-- D2: the kind and the number of a line: `p` (112) or `k` (107), a blank, the number
abbrev pub name_text : Name → List ℕ
name_text (partition c) = 112 ∷ 32 ∷ decimal c
name_text (key s) = 107 ∷ 32 ∷ decimal_key (key_of s)

-- D2: the line of a right, without its line feed
unfoldable pub right_text : ℕ → Name → List ℕ
right_text who n = decimal who ++ (32 ∷ name_text n)

-- D6: a line for each name of a party
abbrev pub names_text : ℕ → List Name → List ℕ
names_text who [] = []
names_text who (n ∷ ns) = right_text who n ++ (10 ∷ names_text who ns)

-- D6: the lines of a party
unfoldable pub party_text : List ℕ → ℕ → List ℕ
party_text roster who = names_text who (names_in (get_or roster who 0) (get_or roster (8 + who) 0))

-- D6: party by party
abbrev pub parties_text : List ℕ → List ℕ → List ℕ
parties_text roster [] = []
parties_text roster (who ∷ whos) = party_text roster who ++ parties_text roster whos

-- D6: the names line, and then a line for each right
unfoldable pub printed : List ℕ → List ℕ
printed roster = names_line ++ (10 ∷ parties_text roster parties)

-- D7: the roster, or the refusal
unfoldable pub output_of : Outcome → List ℕ
output_of (accepted roster) = printed roster
output_of (refused n) = refusal_text n

-- D7: the output
abbrev pub output : List ℕ → List ℕ
output file = output_of (read_file file)
