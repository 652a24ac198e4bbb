-- `live_rows` meets its contract: in a sound space the count is at most 128.
use Rattle.std.proofs.Common.{arith}
use Rattle.rules.proofs.Back.{sound-facts}
use Rattle.search.proofs.live_rows.Goals as goal

pub bounds-space-0 : goal.bounds-space-0
bounds-space-0 c = omega (arith, (sound-facts _ c.requires).len)

pub returns : goal.returns
returns c = omega (arith, (sound-facts _ c.requires).count)
