-- The first line is the names line, or unreadable.
use Rattle.std.proofs.Common.{arith}
use Rattle.session.specs.Transcript.{input_names, output_names, unreadable}
use Rattle.session.proofs.Follow.{start-other, start-names}
use Rattle.session.proofs.begin.Goals as goal

pub returns-in_default-clause-turned : goal.returns-in_default-clause-turned
unfolding input_names
returns-in_default-clause-turned c =
    rw c.stop.ensures.last
    (record { text = unreadable 1; adds = start-other _ c.in_default.ensures.lines; written = c.stop.ensures.printed })

pub returns-clause-turned : goal.returns-clause-turned
unfolding input_names output_names
returns-clause-turned c =
    let w = c.place.ensures.written in
    record {
      text = output_names;
      adds = start-names _ c.in-Some.lines.now c.in-Some.ensures.lines;
      written = record { bytes = grind (arith, w.bytes); ends = w.ends };
    }
