-- The party's partitions are written, and then its keys.
use Rattle.std.proofs.Common.{ℕ, ◌+◌, ◌≤◌, List, ◌++◌, length, map, get_or}
use Rattle.rules.specs.Names.{bits_in}
use Rattle.numbers.specs.Written.{Written}
use Rattle.numbers.proofs.Placed.{Unfinished, begun-as, part_room, part-done}
use Rattle.roster_file.specs.Printed.{names_text, party_text}
use Rattle.roster_print.specs.Answers.{named}
use Rattle.roster_print.specs.declared.Kind.TheVariants.{Partition, Key}
use Rattle.roster_print.proofs.Texts.{party-parts}
use Rattle.roster_print.proofs.render_party.Goals as goal

module _ (out : List ℕ) (at : ℕ) (roster : List ℕ) (who : ℕ) (h : at + length (party_text roster who) ≤ length out) where
  -- the lines of the party's partitions, and those of its keys
  abbrev partitions : List ℕ
  partitions = names_text who (map (named Partition) (bits_in (get_or roster who 0)))

  abbrev keys : List ℕ
  keys = names_text who (map (named Key) (bits_in (get_or roster (8 + who) 0)))

  start : Unfinished out at (party_text roster who) out at (partitions ++ keys)
  start = begun-as (party-parts roster who) h

  first-room : at + length partitions ≤ length out
  first-room = part_room partitions keys start

  after-partitions : (next : List ℕ) (end : ℕ) → Written out at partitions next end → Unfinished out at (party_text roster who) next end keys
  after-partitions next end w = part-done partitions keys start w

pub render_word-requires : goal.render_word-requires
render_word-requires c = first-room _ _ c.args.roster.now c.args.party c.requires.room

pub render_word-requires-2 : goal.render_word-requires-2
render_word-requires-2 c = (after-partitions _ _ c.args.roster.now c.args.party c.requires.room _ _ c.render_word.ensures.written).room

pub returns-clause-written : goal.returns-clause-written
returns-clause-written c =
    (after-partitions _ _ c.args.roster.now c.args.party c.requires.room _ _ c.render_word.ensures.written).completes _ _ c.render_word-2.ensures.written
