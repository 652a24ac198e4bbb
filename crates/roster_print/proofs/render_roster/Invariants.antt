-- At a party the names line and the lines of the parties before it are written.
use Rattle.std.proofs.Common.{◌≡◌, length}
use Rattle.numbers.proofs.Placed.{Unfinished}
use Rattle.roster_file.specs.Printed.{printed}
use Rattle.roster_print.proofs.Texts.{parties_from}
use Rattle.roster_print.proofs.render_roster.Given as goal

abbrev pub invariant-loop-party : goal.invariant-loop-party
invariant-loop-party l = record {
  len : length l.out.bytes.now ≡ length l.fn.out.bytes.now;
  same_reference : l.out.bytes.ghost_name ≡ l.fn.out.bytes.ghost_name;
  left : Unfinished l.fn.out.bytes.now l.fn.out.at (printed l.roster) l.out.bytes.now l.out.at (parties_from l.roster l.party);
}
