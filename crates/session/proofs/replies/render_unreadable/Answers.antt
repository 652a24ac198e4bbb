-- Its three parts are written one after another, and after each one the parts that are left still complete the text.
use Rattle.std.proofs.Common.{◌≤◌, length, arith, ℕ, List, [], ◌∷◌, ◌++◌}
use Rattle.numbers.specs.Numbers.{decimal}
use Rattle.numbers.specs.Written.{Written}
use Rattle.numbers.proofs.Placed.{Unfinished, begun-front, part_room, part-done}
use Rattle.session.specs.Transcript.{unreadable}
use Rattle.session.proofs.replies.render_unreadable.Goals as goal

-- "line "
abbrev line_text : List ℕ
line_text = 108 ∷ 105 ∷ 110 ∷ 101 ∷ 32 ∷ []

-- " unreadable\n"
abbrev rest_text : List ℕ
rest_text = 32 ∷ 117 ∷ 110 ∷ 114 ∷ 101 ∷ 97 ∷ 100 ∷ 97 ∷ 98 ∷ 108 ∷ 101 ∷ 10 ∷ []

module _ (n : ℕ) {out : List ℕ} (h : length (unreadable n) ≤ length out) where
  start : Unfinished out 0 (unreadable n) out 0 (line_text ++ (decimal n ++ rest_text))
  unfolding unreadable
  start = begun-front _ _ h

  worded : {a : List ℕ} {i : ℕ} → Written out 0 line_text a i → Unfinished out 0 (unreadable n) a i (decimal n ++ rest_text)
  worded v = part-done line_text _ start v

  module _ {a : List ℕ} {i : ℕ} (v : Written out 0 line_text a i) where
    numbered : {b : List ℕ} {j : ℕ} → Written a i (decimal n) b j → Unfinished out 0 (unreadable n) b j rest_text
    numbered w = part-done (decimal n) _ (worded v) w

pub place-requires : goal.place-requires
place-requires c = part_room line_text _ (start _ c.requires)

pub decimal-requires : goal.decimal-requires
decimal-requires c = part_room (decimal c.args.number) rest_text (worded _ c.requires c.place.ensures.written)

pub place-requires-2 : goal.place-requires-2
place-requires-2 c = (numbered _ c.requires c.place.ensures.written c.decimal.ensures.written).room

pub returns : goal.returns
returns c =
    let w = (numbered _ c.requires c.place.ensures.written c.decimal.ensures.written).completes _ _ c.place-2.ensures.written in
    record { bytes = grind (arith, w.bytes); ends = w.ends }
