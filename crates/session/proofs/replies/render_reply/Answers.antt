-- Its parts are written one after another, and after each one the parts that are left still complete the reply.
use Rattle.std.proofs.Common.{◌≡◌, ◌∙◌, ap, ◌≤◌, length, arith, ℕ, List, [], ◌∷◌, ◌++◌, take}
use Rattle.rules.specs.Calls.{Answer}
use Rattle.rules.specs.Words.{exit}
use Rattle.rules.specs.Runs.{found_in}
use Rattle.numbers.specs.Numbers.{decimal}
use Rattle.numbers.specs.Written.{Written}
use Rattle.text.specs.Fields.{render_fields}
use Rattle.session.specs.Transcript.{answer_text, reply_text}
use Rattle.session.specs.Steps.{count_of, meant_answer}
use Rattle.numbers.proofs.Placed.{Unfinished, begun-front, part_room, part-done}
use Rattle.session.proofs.FoundFields.{found-fields}
use Rattle.session.proofs.replies.render_reply.Goals as goal

-- the found fields, and the line's end
abbrev fields_text : Answer → List ℕ → List ℕ
fields_text a res = render_fields (found_in a res) ++ (10 ∷ [])

-- the fields as the code takes them from the result
fields-are : (n : ℕ) (a : Answer) (res : List ℕ) → n ≡ count_of a → take n res ≡ found_in a res
fields-are n a res e = ap (λ (k : ℕ). take k res) e ∙ found-fields a res

-- what is left after each part
module _ (n : ℕ) (a : Answer) (res out : List ℕ) (h : length (reply_text n (exit a [] res)) ≤ length out) where
  abbrev Left : List ℕ → ℕ → List ℕ → Type 0
  Left mid at ys = Unfinished out 0 (reply_text n (exit a [] res)) mid at ys

  start : Left out 0 (decimal n ++ (32 ∷ (answer_text a ++ (32 ∷ fields_text a res))))
  unfolding reply_text
  start = begun-front _ _ h

  module _ {b : List ℕ} {i : ℕ} (v : Written out 0 (decimal n) b i) where
    numbered : Left b i (32 ∷ (answer_text a ++ (32 ∷ fields_text a res)))
    numbered = part-done (decimal n) _ start v

    module _ {d : List ℕ} {j : ℕ} (w : Written b i (32 ∷ []) d j) where
      parted : Left d j (answer_text a ++ (32 ∷ fields_text a res))
      parted = part-done (32 ∷ []) _ numbered w

      module _ {e : List ℕ} {k : ℕ} (x : Written d j (answer_text a) e k) where
        answered : Left e k (32 ∷ fields_text a res)
        answered = part-done (answer_text a) _ parted x

        module _ {f : List ℕ} {l : ℕ} (y : Written e k (32 ∷ []) f l) where
          gapped : Left f l (fields_text a res)
          gapped = part-done (32 ∷ []) _ answered y

pub decimal-requires : goal.decimal-requires
decimal-requires c = part_room (decimal c.args.number) _ (start _ _ _ _ c.requires.1)

pub place-requires : goal.place-requires
place-requires c = part_room (32 ∷ []) _ (numbered _ _ _ _ c.requires.1 c.decimal.ensures.written)

pub render_answer-requires : goal.render_answer-requires
render_answer-requires c =
    part_room (answer_text (meant_answer c.args.answer)) _ (parted _ _ _ _ c.requires.1 c.decimal.ensures.written c.place.ensures.written)

pub place-requires-2 : goal.place-requires-2
place-requires-2 c =
    part_room (32 ∷ []) _
    (answered _ _ _ _ c.requires.1 c.decimal.ensures.written c.place.ensures.written c.render_answer.ensures.written)

pub render_fields-requires : goal.render_fields-requires
render_fields-requires c =
    let gap = gapped _ _ _ _ c.requires.1 c.decimal.ensures.written c.place.ensures.written c.render_answer.ensures.written c.place-2.ensures.written in
    rw (fields-are _ (meant_answer c.args.answer) c.args.res.now c.found-n.ensures)
    (part_room (render_fields (found_in (meant_answer c.args.answer) c.args.res.now)) (10 ∷ []) gap)

pub place-requires-3 : goal.place-requires-3
place-requires-3 c =
    let gap = gapped _ _ _ _ c.requires.1 c.decimal.ensures.written c.place.ensures.written c.render_answer.ensures.written c.place-2.ensures.written in
    let written = rw (fields-are _ (meant_answer c.args.answer) c.args.res.now c.found-n.ensures) at c.render_fields.ensures.written in
    (part-done (render_fields (found_in (meant_answer c.args.answer) c.args.res.now)) (10 ∷ []) gap written).room

pub returns : goal.returns
returns c =
    let gap = gapped _ _ _ _ c.requires.1 c.decimal.ensures.written c.place.ensures.written c.render_answer.ensures.written c.place-2.ensures.written in
    let written = rw (fields-are _ (meant_answer c.args.answer) c.args.res.now c.found-n.ensures) at c.render_fields.ensures.written in
    let w = (part-done (render_fields (found_in (meant_answer c.args.answer) c.args.res.now)) (10 ∷ []) gap written).completes _ _ c.place-3.ensures.written in
    record { bytes = grind (arith, w.bytes); ends = w.ends }
