-- Names: partitions, keys and co-keys, and the words whose bits hold them.
use Rattle.std.specs.Prelude.{Bool, ◌&&◌, List, [], ◌∷◌, ℕ, ◌-◌, ◌/◌, ◌%◌, ◌^◌, ◌≤◌, eqb, ℤ, pos, negsuc, nat_abs, neg_ℤ, ◌+ℤ◌, get_or, set}
use Rattle.std.specs.Int.Bits.{bit_or}
use Rattle.std.specs.Int.Signed.{le_z}
use Rattle.rules.specs.Lists.{keep, from}

-- N1: the parties
abbrev pub parties : List ℕ
parties = 0 ∷ 1 ∷ 2 ∷ 3 ∷ 4 ∷ 5 ∷ 6 ∷ 7 ∷ []

-- N3: a key is a number from -31 to 31
abbrev pub key_in_range : ℤ → Bool
key_in_range k = le_z (negsuc 30) k && le_z k (pos 31)

-- N4: the co-key of k is -k
abbrev pub co_key : ℤ → ℤ
co_key k = neg_ℤ k

-- N5: a key is stored as key + 31
abbrev pub stored : ℤ → ℕ
stored k = nat_abs (k +ℤ pos 31)

-- N5: the co-key of a stored key, stored: of k + 31 it is -k + 31
abbrev pub co_stored : ℕ → ℕ
co_stored s = 62 - s

-- N2, N3: a name is a partition or a key; a key is named by its stored form
pub data Name : Type 0 where
  partition : ℕ → Name
  key : ℕ → Name

-- N2, N5: a partition is at most 63, a stored key at most 62
abbrev pub NameInRange : Name → Type 0
NameInRange (partition c) = c ≤ 63
NameInRange (key k) = k ≤ 62

-- N2: partition 0, the default `#`
abbrev pub default_partition : ℕ
default_partition = 0

-- N3: key 0, the default `?`, stored
abbrev pub default_key : ℕ
default_key = 31

-- C1, S4: the names that everyone holds, whatever the roster lists: key 0 alone
abbrev pub common_names : List Name
common_names = key default_key ∷ []

-- L2: bit c of a word
abbrev pub bit : ℕ → ℕ → Bool
bit w c = eqb (w / 2 ^ c % 2) 1

-- L2, N6: the bits that are set in a word, smallest first
unfoldable pub bits_in : ℕ → List ℕ
bits_in w = keep (bit w) (from 0 64)

-- L2: a word with bit c set
abbrev pub with_bit : ℕ → ℕ → ℕ
with_bit w c = bit_or w (2 ^ c)

-- L2, L3: the words with bit c of word i set
abbrev pub set_bit : ℕ → ℕ → List ℕ → List ℕ
set_bit i c ws = set ws i (with_bit (get_or ws i 0) c)

-- L2, L3: the name is among those of a partition word and a key word
unfoldable pub held_in : ℕ → ℕ → Name → Bool
held_in partitions keys (partition c) = bit partitions c
held_in partitions keys (key k) = bit keys k
