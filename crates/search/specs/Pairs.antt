-- What the search tests of a row before its fields, on the words.
use Rattle.std.specs.Prelude.{Bool, ◌&&◌, List, ℕ, ◌+◌, ◌≤◌, eqb, get_or}
use Rattle.rules.specs.Partitions.{sets_agree}
use Rattle.search.specs.declared.Op.{Op}
use Rattle.search.specs.declared.Op.TheVariants.{Looking, Receiving, Taking}

-- L4: where a row has the pair that the operation goes by
abbrev pub offset : Op → ℕ
offset Looking = 1
offset Receiving = 1
offset Taking = 3

-- S6: of the words before a row's fields, the count and the key of the pair at that offset are in range
pub record SmallAt (head : List ℕ) (pair : ℕ) : Type 0 where
  pub count : get_or head 5 0 ≤ 8
  pub key : get_or head (pair + 1) 0 ≤ 62

-- M1, M3, M4: those words have the count, and at that offset a set that agrees and the key
unfoldable pub pair_at : List ℕ → ℕ → ℕ → ℕ → ℕ → Bool
pair_at head pair set key count = (eqb (get_or head 5 0) count && sets_agree set (get_or head pair 0)) && eqb (get_or head (pair + 1) 0) key
