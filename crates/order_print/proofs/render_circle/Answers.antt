-- Its three parts are written one after another.
use Rattle.std.proofs.Common.{ℕ, List, [], ◌∷◌, ◌++◌, ◌+◌, ◌≤◌, length}
use Rattle.numbers.specs.Numbers.{decimal}
use Rattle.numbers.proofs.Placed.{Unfinished, begun, part_room, part-done}
use Rattle.order_print.specs.Printed.{circle_text}
use Rattle.order_print.proofs.render_circle.Goals as goal

-- "circle "
abbrev word : List ℕ
word = 99 ∷ 105 ∷ 114 ∷ 99 ∷ 108 ∷ 101 ∷ 32 ∷ []

start : (out : List ℕ) (at p : ℕ) → at + length (circle_text p) ≤ length out → Unfinished out at (circle_text p) out at (word ++ (decimal p ++ (10 ∷ [])))
unfolding circle_text
start out at p h = begun out at _ h

pub place-requires : goal.place-requires
place-requires c = part_room word _ (start _ _ c.args.p c.requires)

pub decimal-requires : goal.decimal-requires
decimal-requires c = part_room (decimal c.args.p) _ (part-done word _ (start _ _ c.args.p c.requires) c.place.ensures.written)

pub place-requires-2 : goal.place-requires-2
place-requires-2 c =
    (part-done (decimal c.args.p) _ (part-done word _ (start _ _ c.args.p c.requires) c.place.ensures.written) c.decimal.ensures.written).room

pub returns-clause-written : goal.returns-clause-written
returns-clause-written c =
    let u = part-done (decimal c.args.p) _ (part-done word _ (start _ _ c.args.p c.requires) c.place.ensures.written) c.decimal.ensures.written in
    u.completes _ _ c.place-2.ensures.written
