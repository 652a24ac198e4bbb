-- A line's report has room in the lent bytes.
use Rattle.std.proofs.Common.{arith}
use Rattle.session.proofs.Bounds.{unreadable-short}
use Rattle.session.proofs.stop.Goals as goal

pub render_unreadable-requires : goal.render_unreadable-requires
render_unreadable-requires c = omega (arith, unreadable-short c.args.number c.requires.0, c.requires.1)
