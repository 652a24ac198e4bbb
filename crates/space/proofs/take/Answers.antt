-- `take` meets its contract: what was obtained, with the found row removed.
use Rattle.std.proofs.Common.{◌≡◌, ◌∙◌, refl, ap, ℕ, List, length}
use Rattle.std.specs.Prelude.{Option, Some, None, Ok, Err}
use Rattle.std.proofs.lemmas.Result.{err_from_is_err_and}
use Rattle.refusal.specs.Numbers.{number}
use Rattle.rules.specs.Matching.{taking}
use Rattle.rules.specs.Calls.{found}
use Rattle.rules.specs.Words.{exit}
use Rattle.words.specs.Pairs.{meant}
use Rattle.space.proofs.Seeking.{obtaining, none-call, refused-call, removable}
use Rattle.space.proofs.take.Goals as goal

pub returns-in_err-row : goal.returns-in_err-row
returns-in_err-row c =
    let a = c.args in
    let p = err_from_is_err_and c.from_residual.result c.from_residual.ensures.1 in
    let got = c.in_err-row.ensures in
    rw (p.1, p.2)
    (obtaining a.space.now taking a.party (meant a.pair) a.fields.now a.res.now (Err (number c.in_err-row.field-0.0)) _ _ _ refl got.space_after got.res_after
    ∙ refused-call _ _ _ _ _ a.res.now (number c.in_err-row.field-0.0) got.value)

-- where no entry was obtained
none-is : (o : Option ℕ) → ((r : ℕ) → o ≡ Some r → ⊥) → o ≡ None
none-is None other = refl
none-is (Some r) other = absurd (other r refl)

pub returns-in_default : goal.returns-in_default
returns-in_default c =
    let a = c.args in
    let got = c.in_ok-row.ensures in
    let none = none-is c.in_ok-row.field-0 c.in_default.not-Some in
    obtaining a.space.now taking a.party (meant a.pair) a.fields.now a.res.now (Ok None) _ _ _ refl (rw none at got.space_after) (rw none at got.res_after)
    ∙ none-call _ _ _ _ _ a.res.now (rw none at got.value)

pub remove_row-requires : goal.remove_row-requires
remove_row-requires c =
    let a = c.args in
    let got = c.in_ok-row.ensures in
    let row = c.in-Some.is in
    let ok = removable a.space.now a.party (meant a.pair) a.fields.now a.res.now _ _ _ (rw row at got.value) (rw row at got.space_after) (rw row at got.res_after) in
    (ok.is_sound, ok.below)

pub returns : goal.returns
returns c =
    let a = c.args in
    let got = c.in_ok-row.ensures in
    let row = c.in-Some.is in
    let ok = removable a.space.now a.party (meant a.pair) a.fields.now a.res.now _ _ _ (rw row at got.value) (rw row at got.space_after) (rw row at got.res_after) in
    ap (λ (ws : List ℕ). exit (found (length a.fields.now)) ws c.obtain.new.res) c.remove_row.ensures ∙ ok.removed
