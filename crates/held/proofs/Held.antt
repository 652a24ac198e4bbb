-- What a party holds, read from the space's words.
use Prim.Native.Nat.{ℕ, ◌+◌, ◌<◌}
use mathlib.Core.Path.{◌≡◌, refl, sym, ◌∙◌}
use mathlib.Core.Bool.{Bool, ◌&&◌, and-true}
use mathlib.Core.List.{List, [], ◌∷◌, map}
use lib.ListN.{get_or, take, drop}
use lib.Seq.{get_or-take, get_or-drop}
use Rattle.rules.specs.Lists.{all}
use Rattle.rules.specs.Names.{Name, partition, key, bit, bits_in, held_in}
use Rattle.rules.specs.Partitions.{set_names, sets}
use Rattle.rules.specs.State.{holds}
use Rattle.rules.specs.Matching.{Pair}
use Rattle.rules.specs.Calls.{partitions_in, keys_in}
use Rattle.rules.specs.Words.{decode}
use Rattle.rules.proofs.ListLaws.{all_same}
use Rattle.rules.proofs.Loops.{all_append, all-mapped}

-- word a + who, where the eight words from a are one for each party
word_of : (ws : List ℕ) (a who : ℕ) → who < 8 → get_or (take 8 (drop a ws)) who 0 ≡ get_or ws (a + who) 0
word_of ws a who h = get_or-take 8 (drop a ws) who 0 h ∙ get_or-drop a ws who 0

-- L2, L3: the party's two words
pub record WordsOf (ws : List ℕ) (who partitions keys : ℕ) : Type 0 where
  pub party : who < 8
  pub partitions_are : partitions ≡ get_or ws (1 + who) 0
  pub keys_are : keys ≡ get_or ws (9 + who) 0

module _ {ws : List ℕ} {who partitions keys : ℕ} (w : WordsOf ws who partitions keys) where
  held_word : (n : Name) → held_in partitions keys n ≡ holds (decode ws) who n
  unfolding holds decode
  held_word n = rw (w.partitions_are, w.keys_are, word_of ws 1 who w.party, word_of ws 9 who w.party) refl

  -- R7: the names in fields
  pub held-names : (l : List Name) → all (held_in partitions keys) l ≡ all (holds (decode ws) who) l
  held-names l = all_same (held_in partitions keys) (holds (decode ws) who) held_word l

  held-set : (set : ℕ) → all (bit partitions) (bits_in set) ≡ all (holds (decode ws) who) (sets.names set)
  unfolding held_in set_names
  held-set set = sym (all-mapped (held_in partitions keys) partition (bits_in set)) ∙ held-names (map partition (bits_in set))

  -- R13: the partitions of a pair, before those of the pairs ps
  pub held-partitions : (p : Pair ℕ) (ps : List (Pair ℕ)) {a b : Bool} → a ≡ all (bit partitions) (bits_in p.partitions)
      → b ≡ all (holds (decode ws) who) (partitions_in sets ps) → (a && b) ≡ all (holds (decode ws) who) (partitions_in sets (p ∷ ps))
  held-partitions p ps e f =
      rw (e ∙ held-set p.partitions, f) (sym (all_append (holds (decode ws) who) (sets.names p.partitions) (partitions_in sets ps)))

  -- R14: the key of a pair, before those of the pairs ps
  pub held-keys : (p : Pair ℕ) (ps : List (Pair ℕ)) {a b : Bool} → a ≡ bit keys p.key → b ≡ all (holds (decode ws) who) (keys_in ps)
      → (a && b) ≡ all (holds (decode ws) who) (keys_in (p ∷ ps))
  unfolding held_in
  held-keys p ps e f = rw (e ∙ held_word (key p.key), f) refl

  -- of one pair alone
  pub only-partitions : (p : Pair ℕ) {a : Bool} → a ≡ all (bit partitions) (bits_in p.partitions)
      → a ≡ all (holds (decode ws) who) (partitions_in sets (p ∷ []))
  only-partitions p {a} e = sym (and-true a) ∙ held-partitions p [] e refl

  pub only-key : (p : Pair ℕ) {a : Bool} → a ≡ bit keys p.key → a ≡ all (holds (decode ws) who) (keys_in (p ∷ []))
  only-key p {a} e = sym (and-true a) ∙ held-keys p [] e refl
