-- `has_bit` meets its contract: below 64 the code computes what `bit` says, and no word has a bit past 63.
use Rattle.std.proofs.Common.{arith}
use Rattle.rules.proofs.BitLaws.{no-bit}
use Rattle.words.proofs.has_bit.Goals as goal

pub returns-else-c-lt64 : goal.returns-else-c-lt64
returns-else-c-lt64 c = let none = no-bit 64 c.args.w c.args.c c.ranges.w.fits c.if-c-lt64.false in grind arith
