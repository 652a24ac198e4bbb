-- `first_tests` meets its contract: past each test that fails, the next decides.
use Rattle.std.specs.Prelude.{Option}
use Rattle.std.specs.Option.{ok_or}
use Rattle.std.proofs.lemmas.Result.{err_from_is_err_and}
use Rattle.refusal.specs.Numbers.{numbered}
use Rattle.refusal.specs.declared.Refusal.TheVariants.{Unsound}
use Rattle.std.proofs.Common.{ap, ℕ, ◌≡◌, refl, sym, ◌∙◌, true, false, ltb, lt-ltb, le-ltb}
use Rattle.rules.specs.Calls.{bad_count}
use Rattle.refusals.specs.Admissions.{first_tests, begun}
use Rattle.refusals.proofs.Tables.{unsound, audited-sound}
use Rattle.refusals.proofs.first_tests.Goals as goal

pub returns-in_err-live : goal.returns-in_err-live
unfolding first_tests begun
returns-in_err-live c =
    let none = unsound _ _ (sym c.in_err-live.ensures.ok_part ∙ c.audit.ensures) in
    let p = err_from_is_err_and c.from_residual.result c.from_residual.ensures.1 in
    rw (none, p.1, p.2) (ap numbered (c.in_err-live.ensures.value ∙ ap (λ (o : Option ℕ). ok_or o Unsound) c.in_err-live.ensures.ok_part))

pub returns-then-party-gt7 : goal.returns-then-party-gt7
unfolding first_tests begun
returns-then-party-gt7 c =
    let above : ltb 7 c.args.party ≡ true = lt-ltb _ _ c.if-party-gt7.true in
    rw ((audited-sound _ _ _ (sym c.in_ok-live.ensures.ok_part ∙ c.audit.ensures)).0, above) refl

pub returns-then-n : goal.returns-then-n
unfolding first_tests begun
returns-then-n c =
    let party_is : ltb 7 c.args.party ≡ false = le-ltb _ _ c.if-party-gt7.false in
    let bad : bad_count c.args.fields.now ≡ true = c.if-n.true in
    rw ((audited-sound _ _ _ (sym c.in_ok-live.ensures.ok_part ∙ c.audit.ensures)).0, party_is, bad) refl

pub returns : goal.returns
unfolding first_tests begun
returns c =
    let found = audited-sound _ _ _ (sym c.in_ok-live.ensures.ok_part ∙ c.audit.ensures) in
    let party_is : ltb 7 c.args.party ≡ false = le-ltb _ _ c.if-party-gt7.false in
    let good : bad_count c.args.fields.now ≡ false = c.if-n.false in
    rw (found.0, party_is, good, found.1) refl
