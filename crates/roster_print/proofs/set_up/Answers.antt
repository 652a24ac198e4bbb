-- By the reader's answer: the space is opened and the roster printed, or the refusal is.
use Rattle.std.proofs.Common.{arith}
use Rattle.roster_file.proofs.PrintedShort.{printed-short}
use Rattle.roster_print.proofs.Outcomes.{given-output, refused-short, refused-output}
use Rattle.roster_print.proofs.set_up.Goals as goal

pub render_roster-requires : goal.render_roster-requires
render_roster-requires c = let l = printed-short c.read_roster.new.roster in omega arith

pub refusal-requires : goal.refusal-requires
refusal-requires c =
    let l = refused-short c.args.file.now c.args.roster.now c.read_roster.new.roster c.in-Err.refusal c.in-Err.ensures in
    omega (arith, l)

pub returns-in-Ok-clause-written : goal.returns-in-Ok-clause-written
returns-in-Ok-clause-written c =
    given-output c.args.file.now c.args.roster.now c.read_roster.new.roster c.in-Ok.ensures _ _ _ _ c.render_roster.ensures.written

pub returns-in-Err-clause-written : goal.returns-in-Err-clause-written
returns-in-Err-clause-written c =
    refused-output c.args.file.now c.args.roster.now c.read_roster.new.roster c.in-Err.refusal c.in-Err.ensures _ _ _ _ c.refusal.ensures.written
