-- The names line is written; at a party the lines of the parties before it are.
use Rattle.std.proofs.Common.{ℕ, ◌+◌, ◌≤◌, List, [], ◌∷◌, ◌++◌, length, ◌∙◌}
use Rattle.numbers.specs.Written.{Written}
use Rattle.numbers.proofs.Placed.{Unfinished, begun-as, part_room, part-done, finished}
use Rattle.roster_file.specs.File.{names_line}
use Rattle.roster_file.specs.Printed.{party_text, printed}
use Rattle.roster_print.proofs.Texts.{left_as, parties_from, all-parties, one-party, no-parties}
use Rattle.roster_print.proofs.render_roster.Goals as goal

-- "party kind name\n"
abbrev names : List ℕ
names = 112 ∷ 97 ∷ 114 ∷ 116 ∷ 121 ∷ 32 ∷ 107 ∷ 105 ∷ 110 ∷ 100 ∷ 32 ∷ 110 ∷ 97 ∷ 109 ∷ 101 ∷ 10 ∷ []

module _ (out : List ℕ) (at : ℕ) (roster : List ℕ) (h : at + length (printed roster) ≤ length out) where
  start : Unfinished out at (printed roster) out at (names ++ parties_from roster 0)
  unfolding names_line
  start = begun-as (all-parties roster) h

  names-room : at + 16 ≤ length out
  names-room = part_room names (parties_from roster 0) start

  after-names : (next : List ℕ) (end : ℕ) → Written out at names next end → Unfinished out at (printed roster) next end (parties_from roster 0)
  after-names next end w = part-done names _ start w

pub place-requires : goal.place-requires
place-requires c = names-room _ _ c.args.roster.now c.requires

pub loop-party-init : goal.loop-party-init
loop-party-init c = record {
  len = c.place.ensures.len;
  same_reference = c.place.ensures.same_reference;
  left = after-names _ _ c.args.roster.now c.requires _ _ c.place.ensures.written;
}

pub render_party-requires-clause-room : goal.render_party-requires-clause-room
render_party-requires-clause-room c =
    let l = c.loop-party in
    let roster = c.args.roster.now in
    part_room (party_text roster l.party) (parties_from roster (l.party + 1)) (left_as _ _ (one-party roster l.party c.loop-party-test.true) l.invariant.left)

pub loop-party-preserved : goal.loop-party-preserved
loop-party-preserved c =
    let l = c.loop-party in
    let roster = c.args.roster.now in
    record {
      len = c.render_party.ensures.len ∙ l.invariant.len;
      same_reference = c.render_party.ensures.same_reference ∙ l.invariant.same_reference;
      left = part-done (party_text roster l.party) (parties_from roster (l.party + 1))
          (left_as _ _ (one-party roster l.party c.loop-party-test.true) l.invariant.left) c.render_party.ensures.written;
    }

pub returns-clause-written : goal.returns-clause-written
returns-clause-written c =
    let l = c.loop-party in
    finished (left_as _ _ (no-parties c.args.roster.now l.party c.loop-party-test.false) l.invariant.left)
