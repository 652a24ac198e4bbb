-- One party more is written: a blank, and its number.
use Rattle.std.proofs.Common.{ℕ, List, [], ◌∷◌, ◌++◌, ◌<◌, ◌+◌, length, get_or, drop, subst, arith, rules}
use Rattle.numbers.specs.Numbers.{decimal}
use Rattle.numbers.proofs.Placed.{Unfinished, part_room, part-done, finished}
use Rattle.order_print.specs.Printed.{parties_text}
use Rattle.order_print.proofs.Texts.{one-party, no-parties}
use Rattle.order_print.proofs.render_parties.Goals as goal

-- at a turn the party's text stands first in what is left
turn : (out₀ : List ℕ) (at₀ : ℕ) (ps out : List ℕ) (at i : ℕ) → i < length ps → Unfinished out₀ at₀ (parties_text ps) out at (parties_text (drop i ps))
    → Unfinished out₀ at₀ (parties_text ps) out at ((32 ∷ []) ++ (decimal (get_or ps i 0) ++ parties_text (drop (i + 1) ps)))
turn out₀ at₀ ps out at i h u = subst (Unfinished out₀ at₀ (parties_text ps) out at) (one-party ps i h) u

pub place-requires : goal.place-requires
place-requires c =
    let l = c.loop-party in
    part_room (32 ∷ []) _ (turn _ _ c.args.parties.now _ _ l.party-index (omega arith) l.invariant.left)

pub decimal-requires : goal.decimal-requires
decimal-requires c =
    let l = c.loop-party in
    let ps : List ℕ = c.args.parties.now in
    part_room (decimal (get_or ps l.party-index 0)) (parties_text (drop (l.party-index + 1) ps))
    (part-done (32 ∷ []) _ (turn _ _ ps _ _ l.party-index (omega arith) l.invariant.left) c.place.ensures.written)

pub loop-party-preserved : goal.loop-party-preserved
loop-party-preserved c =
    let l = c.loop-party in
    let ps : List ℕ = c.args.parties.now in
    record {
      left =
          part-done (decimal (get_or ps l.party-index 0)) (parties_text (drop (l.party-index + 1) ps))
          (part-done (32 ∷ []) _ (turn _ _ ps _ _ l.party-index (omega arith) l.invariant.left) c.place.ensures.written) c.decimal.ensures.written;
      len = search rules;
      same_reference = search rules;
    }

pub returns-clause-written : goal.returns-clause-written
returns-clause-written c =
    let l = c.loop-party in
    let ps : List ℕ = c.args.parties.now in
    finished (subst (Unfinished c.args.out.now.bytes.now c.args.out.now.at (parties_text ps) l.out.bytes.now l.out.at) (no-parties ps l.party-index (omega arith)) l.invariant.left)
