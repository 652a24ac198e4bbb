-- `audit` meets its contract: where the tests before it pass, each test decides as soundness does.
use Rattle.std.proofs.Common.{length, get_or, refl, sym, ◌∙◌}
use Rattle.std.proofs.lemmas.Bool.{eq-eqb, ne_eqb, le-leb, lt-leb}
use Rattle.rules.specs.Words.{sound}
use Rattle.audit.proofs.Audits.{unsound-audited, sound-audited, none-audited, rest-decides}
use Rattle.audit.proofs.audit.Goals as goal

pub returns-then-space-ne1809 : goal.returns-then-space-ne1809
unfolding sound
returns-then-space-ne1809 c = unsound-audited c.args.space.now c.args.party (rw (ne_eqb (length c.args.space.now) 1809 c.if-space-ne1809.true) refl)

pub returns-then-live-gt128 : goal.returns-then-live-gt128
unfolding sound
returns-then-live-gt128 c =
    let ws = c.args.space.now in
    unsound-audited ws c.args.party (rw (eq-eqb (length ws) 1809 c.if-space-ne1809.false, lt-leb (get_or ws 0 0) 128 c.if-live-gt128.true) refl)

pub returns-then-not-holdings_ok : goal.returns-then-not-holdings_ok
unfolding sound
returns-then-not-holdings_ok c =
    let ws = c.args.space.now in
    unsound-audited ws c.args.party
    (rw (
      eq-eqb (length ws) 1809 c.if-space-ne1809.false,
      le-leb (get_or ws 0 0) 128 c.if-live-gt128.false,
      sym c.if-not-holdings_ok.ensures,
    ) refl)

pub returns-in_err-charge : goal.returns-in_err-charge
returns-in_err-charge c = c.from_residual.ensures ∙ unsound-audited c.args.space.now c.args.party c.in_err-charge.ensures

pub returns-then-not-rest_ok : goal.returns-then-not-rest_ok
returns-then-not-rest_ok c =
    let ws = c.args.space.now in
    unsound-audited ws c.args.party
    (rest-decides ws _ c.if-space-ne1809.false c.if-live-gt128.false (sym c.if-not-holdings_ok.ensures) c.in_ok-charge.ensures.1 ∙ sym c.if-not-rest_ok.ensures)

pub returns-then-party-gt7 : goal.returns-then-party-gt7
returns-then-party-gt7 c =
    let ws = c.args.space.now in
    none-audited ws c.args.party
    (rest-decides ws _ c.if-space-ne1809.false c.if-live-gt128.false (sym c.if-not-holdings_ok.ensures) c.in_ok-charge.ensures.1 ∙ sym c.if-not-rest_ok.ensures)
    c.if-party-gt7.true

pub returns : goal.returns
returns c =
    let ws = c.args.space.now in
    sound-audited ws c.args.party
    (rest-decides ws _ c.if-space-ne1809.false c.if-live-gt128.false (sym c.if-not-holdings_ok.ensures) c.in_ok-charge.ensures.1 ∙ sym c.if-not-rest_ok.ensures)
    _ (c.in_ok-charge.ensures.2 c.if-party-gt7.false ∙ c.in_ok-charge.ensures.1.charges c.args.party c.if-party-gt7.false)
