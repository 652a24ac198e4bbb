-- Its three parts are written one after another.
use Rattle.std.proofs.Common.{ℕ, List, [], ◌∷◌, ◌++◌, ◌+◌, ◌≤◌, length}
use Rattle.numbers.proofs.Placed.{Unfinished, begun, part_room, part-done}
use Rattle.order_print.specs.Printed.{parties_text, order_text}
use Rattle.order_print.proofs.render_order.Goals as goal

-- "order"
abbrev word : List ℕ
word = 111 ∷ 114 ∷ 100 ∷ 101 ∷ 114 ∷ []

start : (out : List ℕ) (at : ℕ) (ps : List ℕ) → at + length (order_text ps) ≤ length out → Unfinished out at (order_text ps) out at (word ++ (parties_text ps ++ (10 ∷ [])))
unfolding order_text
start out at ps h = begun out at _ h

pub place-requires : goal.place-requires
place-requires c = part_room word _ (start _ _ c.args.places.now c.requires)

pub render_parties-requires : goal.render_parties-requires
render_parties-requires c =
    part_room (parties_text c.args.places.now) _ (part-done word _ (start _ _ c.args.places.now c.requires) c.place.ensures.written)

pub place-requires-2 : goal.place-requires-2
place-requires-2 c =
    let ps : List ℕ = c.args.places.now in
    (part-done (parties_text ps) _ (part-done word _ (start _ _ ps c.requires) c.place.ensures.written) c.render_parties.ensures.written).room

pub returns-clause-written : goal.returns-clause-written
returns-clause-written c =
    let ps : List ℕ = c.args.places.now in
    let u = part-done (parties_text ps) _ (part-done word _ (start _ _ ps c.requires) c.place.ensures.written) c.render_parties.ensures.written in
    u.completes _ _ c.place-2.ensures.written
