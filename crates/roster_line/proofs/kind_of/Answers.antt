-- A text of two bytes or more is no kind.
use Rattle.std.proofs.Common.{sym}
use Rattle.roster_line.proofs.Lines.{long-kind}
use Rattle.roster_line.proofs.kind_of.Goals as goal

pub returns-in_default-3 : goal.returns-in_default-3
returns-in_default-3 c = sym (long-kind _ c.in_default.len_at_least)
