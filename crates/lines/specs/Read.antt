-- What the reading of a line answers, as what the definitions give.
use Rattle.std.specs.Prelude.{◌≡◌, Bool, false, ◌&&◌, cond, List, ℕ, ◌≤◌, eqb, leb, ℤ, Option, Some, None, IfSome, take}
use Rattle.std.proofs.Math.Option as math
use Rattle.std.proofs.Math.Option.{none, some}
use Rattle.rules.specs.Names.{key_in_range, stored}
use Rattle.rules.specs.Matching as matching
use Rattle.rules.specs.Calls.{put, seek}
use Rattle.rules.specs.Calls as calls
use Rattle.rules.specs.Words.{zeros}
use Rattle.words.specs.Pairs as pairs
use Rattle.words.specs.declared.Pair.{Pair}
use Rattle.search.specs.Place as place
use Rattle.search.specs.declared.Op.{Op}
use Rattle.numbers.specs.Parts.{same}
use Rattle.text.specs.Numbers.{unsigned, signed}
use Rattle.text.specs.Partitions.{read_partitions}
use Rattle.text.specs.Fields.{read_fields}
use Rattle.lines.specs.Lines as lines
use Rattle.lines.specs.Lines.{item}
use Rattle.lines.specs.declared.Items.{Items}
use Rattle.lines.specs.declared.Call.{Call}
use Rattle.lines.specs.declared.Call.TheVariants as call
use Rattle.lines.specs.declared.Line.{Line}
use Rattle.lines.specs.declared.Line.TheVariants as line

-- ---- items

-- T12, T14: nothing stands under the take pair
abbrev pub no_take_pair : List ℕ → List ℕ → Bool
no_take_pair partitions key = same partitions lines.dash && same key lines.dash

-- T12: what a gift has of a partition, by its item
abbrev pub partition_gift : List ℕ → math.Option (math.Option ℕ)
partition_gift text = lines.optional (λ p. leb p 63) (λ p. p) text (unsigned text)

-- T12: what a gift has of a stored key, by its item
abbrev pub key_gift : List ℕ → math.Option (math.Option ℕ)
key_gift text = lines.optional key_in_range stored text (signed text)

-- T15: the seven items of a line with six blanks
pub record ItemsOf (line : List ℕ) (r : Items) : Type 0 where
  pub six : lines.blanks line ≡ 6
  pub call : r.call.now ≡ item 0 line
  pub party : r.party.now ≡ item 1 line
  pub rpart : r.rpart.now ≡ item 2 line
  pub rkey : r.rkey.now ≡ item 3 line
  pub tpart : r.tpart.now ≡ item 4 line
  pub tkey : r.tkey.now ≡ item 5 line
  pub fields : r.fields.now ≡ item 6 line

-- T15: there are none exactly if the line hasn't six blanks
abbrev pub ItemsAre : List ℕ → Option Items → Type 0
ItemsAre line None = eqb (lines.blanks line) 6 ≡ false
ItemsAre line (Some r) = ItemsOf line r

-- ---- the readers, by the items of their line

-- T12
abbrev pub give_in : Items → math.Option lines.Line
give_in r =
    cond (no_take_pair r.tpart.now r.tkey.now && same r.fields.now lines.dash)
    (lines.gift_of (unsigned r.party.now) (partition_gift r.rpart.now) (key_gift r.rkey.now))
    none

-- T13
abbrev pub put_in : Items → math.Option lines.Line
put_in r =
    lines.put_of
    (unsigned r.party.now)
    (lines.pair_of (read_partitions r.rpart.now) (signed r.rkey.now))
    (lines.pair_of (read_partitions r.tpart.now) (signed r.tkey.now))
    (read_fields r.fields.now)

-- T14
abbrev pub seek_in : matching.Op → Items → math.Option lines.Line
seek_in op r =
    cond (no_take_pair r.tpart.now r.tkey.now)
    (lines.seek_of op (unsigned r.party.now) (lines.pair_of (read_partitions r.rpart.now) (signed r.rkey.now)) (read_fields r.fields.now))
    none

-- ---- answers

abbrev pub name_of : Option ℕ → math.Option ℕ
name_of None = none
name_of (Some c) = some c

abbrev pub meant_gift : Option (Option ℕ) → math.Option (math.Option ℕ)
meant_gift None = none
meant_gift (Some g) = some (name_of g)

abbrev pub meant_op : Option Op → math.Option matching.Op
meant_op None = none
meant_op (Some op) = some (place.meant op)

abbrev pub meant_pair : Option Pair → math.Option (matching.Pair ℤ)
meant_pair None = none
meant_pair (Some p) = some (pairs.meant p)

-- C2 to C4, C8: the fields of a call are the first of the words; a look, receive or take is lent eight result words
abbrev pub meant_call : Call → List ℕ → calls.Call (List ℕ)
meant_call (call.Put who r t n) ws = put who (pairs.meant r) (pairs.meant t) (take n ws)
meant_call (call.Seek op who p n) ws = seek (place.meant op) who (pairs.meant p) (take n ws) (zeros 8)

-- T11
abbrev pub meant : Option Line → List ℕ → math.Option lines.Line
meant None ws = none
meant (Some (line.Give who p k)) ws = some (lines.give who (name_of p) (name_of k))
meant (Some (line.Ask c)) ws = some (lines.ask (meant_call c ws))

-- ---- what a reader also tells of its answer

abbrev pub field_count : Call → ℕ
field_count (call.Put who r t n) = n
field_count (call.Seek op who p n) = n

abbrev pub InRange : Option Line → Type 0
InRange None = Unit
InRange (Some (line.Give who p k)) = (who ≤ 7) × IfSome p (λ c. c ≤ 63) × IfSome k (λ c. c ≤ 62)
InRange (Some (line.Ask c)) = field_count c ≤ 16

-- the line, with the words as they were left
pub record LineIs (line : math.Option lines.Line) (r : Option Line) (words : List ℕ) : Type 0 where
  pub is : meant r words ≡ line
  pub in_range : InRange r
