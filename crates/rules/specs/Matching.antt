-- Entries, and the matching rule (SecSpaces, Definition 2.1).
use Rattle.std.specs.Prelude.{Bool, true, false, ◌&&◌, List, [], ◌∷◌, ℕ, eqb, ℤ, length}
use Rattle.rules.specs.Names.{co_stored, stored}
use Rattle.rules.specs.Partitions.{Reading}
use Rattle.rules.specs.Fields.{field_agrees}

-- E1, E2: a pair: what it names of partitions is a word, which a `Reading` takes for a set of them; its key is a number in a call,
-- and stored in an entry
pub record Pair (K : Type 0) : Type 0 where
  pub partitions : ℕ
  pub key : K

abbrev pub pair : {K : Type 0} → ℕ → K → Pair K
pair p k = record { partitions = p; key = k }

abbrev pub stored_pair : Pair ℤ → Pair ℕ
stored_pair p = pair p.partitions (stored p.key)

-- E1: an entry; the fields are 1 to 8 words
pub record Entry : Type 0 where
  pub writer : ℕ
  pub read_pair : Pair ℕ
  pub take_pair : Pair ℕ
  pub fields : List ℕ

-- C3, C4, C8: the three operations that search; `receiving` is "read" in the papers
pub data Op : Type 0 where
  looking receiving taking : Op

-- M3, M4: the pair that counts for the operation
abbrev pub pair_for : Op → Entry → Pair ℕ
pair_for looking e = e.read_pair
pair_for receiving e = e.read_pair
pair_for taking e = e.take_pair

-- M2: each field of the template agrees with the entry's field in its place
abbrev pub fields_agree : List ℕ → List ℕ → Bool
fields_agree [] fs = true
fields_agree (t ∷ ts) [] = false
fields_agree (t ∷ ts) (f ∷ fs) = field_agrees t f && fields_agree ts fs

-- M4, M6: the co-key of the entry's key is the template's key
abbrev pub keys_agree : ℕ → ℕ → Bool
keys_agree t e = eqb (co_stored e) t

module _ (R : Reading) where
  -- M1 to M4: the entry matches the template, a pair and its fields, for the operation
  unfoldable pub matches : Op → Pair ℕ → List ℕ → Entry → Bool
  matches op p t e =
      eqb (length t) (length e.fields)
      && (fields_agree t e.fields
      && (R.agree p.partitions (pair_for op e).partitions
      && keys_agree p.key (pair_for op e).key))
