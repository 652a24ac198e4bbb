-- `look` meets its contract: what the search answers and writes is what a look does, and the space is only read.
use Rattle.std.proofs.Common.{◌∙◌, refl, ap, ℕ, length}
use Rattle.std.specs.Prelude.{Option, Ok, Err}
use Rattle.std.proofs.lemmas.Result.{err_from_is_err_and}
use Rattle.refusal.specs.Numbers.{number}
use Rattle.rules.specs.Matching.{looking}
use Rattle.words.specs.Pairs.{meant}
use Rattle.space.specs.Answers.{found_meant}
use Rattle.space.proofs.Seeking.{counted, ending, look-call}
use Rattle.space.proofs.look.Goals as goal

pub returns-in_err-found : goal.returns-in_err-found
returns-in_err-found c =
    let a = c.args in
    let p = err_from_is_err_and c.from_residual.result c.from_residual.ensures.1 in
    rw (p.1, p.2)
    (ending a.space.now looking a.party (meant a.pair) a.fields.now a.res.now (Err (number c.in_err-found.field-0.0)) _ _ _ refl c.in_err-found.ensures.res_after
    ∙ look-call _ _ _ _ a.res.now (Err (number c.in_err-found.field-0.0)) c.in_err-found.ensures.value)

pub returns : goal.returns
returns c =
    let a = c.args in
    ending a.space.now looking a.party (meant a.pair) a.fields.now a.res.now (Ok c.in_ok-found.found) _ _ _
    (ap (λ (o : Option ℕ). found_meant (Ok o)) c.and.ensures ∙ counted c.in_ok-found.found (length a.fields.now)) c.in_ok-found.ensures.res_after
    ∙ look-call _ _ _ _ a.res.now (Ok c.in_ok-found.found) c.in_ok-found.ensures.value
