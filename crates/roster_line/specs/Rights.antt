-- A line of a roster file: a party, a kind and a number, which give the party a name.
use Rattle.std.specs.Prelude.{Bool, ◌&&◌, cond, List, [], ◌∷◌, ℕ, ◌+◌, leb, ℤ, pos, nat_abs}
use Rattle.std.proofs.Math.Option.{Option, none, some}
use Rattle.std.specs.Int.Signed.{le_z}
use Rattle.rules.specs.Names.{Name, partition, key, key_in_range, stored, set_bit}
use Rattle.numbers.specs.Numbers.{natural, whole}
use Rattle.numbers.specs.Parts.{parts, same}

-- D2: what the number of a line is
pub data Kind : Type 0 where
  a_partition : Kind
  a_key : Kind

-- D2: `p` (112) or `k` (107)
abbrev pub kind_of : List ℕ → Option Kind
kind_of text = cond (same text (112 ∷ [])) (some a_partition) (cond (same text (107 ∷ [])) (some a_key) none)

-- N2, N3: a partition is 0 to 63, a key -31 to 31
abbrev pub in_range : Kind → ℤ → Bool
in_range a_partition k = le_z (pos 0) k && le_z k (pos 63)
in_range a_key k = key_in_range k

-- D2: the name that a number in range is; a key is named by its stored form
abbrev pub name_of : Kind → ℤ → Name
name_of a_partition k = partition (nat_abs k)
name_of a_key k = key (stored k)

-- what a line says: a party is given a name, or the line is faulty, by a refusal's number
pub data Said : Type 0 where
  gives : ℕ → Name → Said
  faulty : ℕ → Said

-- R12: a number is out of its range
abbrev pub judged : ℕ → Kind → ℤ → Said
judged who kind k = cond (leb who 7 && in_range kind k) (gives who (name_of kind k)) (faulty 12)

-- R11: the party can't be read, or the kind, or the number
abbrev pub said : Option ℕ → Option Kind → Option ℤ → Said
said none kind k = faulty 11
said (some who) none k = faulty 11
said (some who) (some kind) none = faulty 11
said (some who) (some kind) (some k) = judged who kind k

-- R11: there are not three items
abbrev pub said_by : List (List ℕ) → Said
said_by [] = faulty 11
said_by (a ∷ []) = faulty 11
said_by (a ∷ b ∷ []) = faulty 11
said_by (a ∷ b ∷ c ∷ []) = said (natural a) (kind_of b) (whole c)
said_by (a ∷ b ∷ c ∷ d ∷ more) = faulty 11

-- D2, D3: three items with one blank (32) between
unfoldable pub read_line : List ℕ → Said
read_line line = said_by (parts 32 line)

-- ---- the right in the roster's words

-- L2, L3: the word in which a party's name is a bit, and the bit
abbrev pub word_of : ℕ → Name → ℕ
word_of who (partition c) = who
word_of who (key s) = 8 + who

abbrev pub bit_of : Name → ℕ
bit_of (partition c) = c
bit_of (key s) = s

-- D4: the roster that also gives the party the name; giving it again changes nothing
unfoldable pub with_right : ℕ → Name → List ℕ → List ℕ
with_right who n roster = set_bit (word_of who n) (bit_of n) roster
