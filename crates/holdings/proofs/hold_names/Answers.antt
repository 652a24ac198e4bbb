-- A turn holds the names of one field more.
use Rattle.std.proofs.Common.{sym, take}
use Rattle.rules.proofs.Back.{encode-decode}
use Rattle.holdings.proofs.Holding.{held-sound, hold-more}
use Rattle.holdings.proofs.hold_names.Goals as goal

pub loop-w-init : goal.loop-w-init
loop-w-init c = sym (encode-decode c.args.space.now c.requires.0)

pub hold_name-requires : goal.hold_name-requires
hold_name-requires c =
    (held-sound c.args.space.now c.requires.0 c.args.party (take c.loop-w.w-index c.args.fields.now) _ c.loop-w.invariant, c.requires.1)

pub loop-w-preserved : goal.loop-w-preserved
loop-w-preserved c =
    hold-more c.args.space.now c.requires.0 c.args.party c.args.fields.now _ _ c.loop-w.w-index c.loop-w.invariant c.hold_name.ensures c.loop-w-test.true
