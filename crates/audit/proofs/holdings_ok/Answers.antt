-- A key word that is not good decides; where none is left, all are good.
use Rattle.std.proofs.Common.{refl, ap, ◌∙◌, take, drop}
use Rattle.std.proofs.Math.Bool.{not}
use Rattle.rules.proofs.Loops.{all-fails, all-ends}
use Rattle.audit.proofs.HoldingLaws.{good, holdings-by}
use Rattle.audit.proofs.holdings_ok.Goals as goal

pub returns-then-not-good : goal.returns-then-not-good
returns-then-not-good c =
    let keys = take 8 (drop 9 c.args.space.now) in
    all-fails good keys c.loop-keys.keys-index _ c.loop-keys.invariant c.loop-keys-test.true _ (rw (c.has_bit.ensures, c.has_bit-in-loop-keys.ensures) refl) (ap not c.if-not-good.true)
    ∙ holdings-by c.args.space.now c.requires

pub returns : goal.returns
returns c =
    let keys = take 8 (drop 9 c.args.space.now) in
    all-ends good keys c.loop-keys.keys-index _ c.loop-keys.invariant c.loop-keys-test.false ∙ holdings-by c.args.space.now c.requires
