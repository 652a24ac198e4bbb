-- Where it is refused: `no`, and then the refusal's number.
use Rattle.std.proofs.Common.{ℕ, List, [], ◌∷◌}
use Rattle.numbers.proofs.Placing.{written_both}
use Rattle.session.specs.Transcript.{answer_text}
use Rattle.session.proofs.replies.render_answer.Goals as goal

-- "no"
abbrev no_text : List ℕ
no_text = 110 ∷ 111 ∷ []

pub returns-in-Err-clause-written : goal.returns-in-Err-clause-written
unfolding answer_text
returns-in-Err-clause-written c =
    rw c.in-Err.is
    (written_both c.args.out.now.bytes.now c.args.out.now.at no_text _ (rw c.in-Err.is at c.requires) _ _ _ _
    c.place-in-Err.ensures.written (rw c.number.ensures.value at c.decimal.ensures.written))
