-- Its three parts are written one after another.
use Rattle.std.proofs.Common.{ℕ, List, [], ◌∷◌, ◌++◌, ◌+◌, ◌≤◌, length, refl}
use Rattle.numbers.specs.Numbers.{decimal, refusal_text}
use Rattle.numbers.specs.Written.{Written}
use Rattle.numbers.proofs.Placed.{Unfinished, begun-as, part_room, part-done}
use Rattle.numbers.proofs.Out.refusal_number.Goals as goal

module _ {out : List ℕ} {at : ℕ} (n : ℕ) (room : at + length (refusal_text n) ≤ length out) where
  start : Unfinished out at (refusal_text n) out at ((110 ∷ 111 ∷ []) ++ (decimal n ++ (10 ∷ [])))
  unfolding refusal_text
  start = begun-as refl room

  module _ {a : List ℕ} {i : ℕ} (v : Written out at (110 ∷ 111 ∷ []) a i) where
    worded : Unfinished out at (refusal_text n) a i (decimal n ++ (10 ∷ []))
    worded = part-done (110 ∷ 111 ∷ []) _ start v

    numbered : {b : List ℕ} {k : ℕ} → Written a i (decimal n) b k → Unfinished out at (refusal_text n) b k (10 ∷ [])
    numbered w = part-done (decimal n) _ worded w

pub place-requires : goal.place-requires
place-requires c = part_room (110 ∷ 111 ∷ []) _ (start _ c.requires)

pub decimal-requires : goal.decimal-requires
decimal-requires c = part_room (decimal _) _ (worded _ c.requires c.place.ensures.written)

pub place-requires-2 : goal.place-requires-2
place-requires-2 c = (numbered _ c.requires c.place.ensures.written c.decimal.ensures.written).room

pub returns-clause-written : goal.returns-clause-written
returns-clause-written c =
    (numbered _ c.requires c.place.ensures.written c.decimal.ensures.written).completes _ _ c.place-2.ensures.written
