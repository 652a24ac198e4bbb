-- The blanks and the numbers of the parties so far are written, and the rest is left.
use Rattle.std.proofs.Common.{◌≡◌, length, drop}
use Rattle.numbers.proofs.Placed.{Unfinished}
use Rattle.order_print.specs.Printed.{parties_text}
use Rattle.order_print.proofs.render_parties.Given as goal

abbrev pub invariant-loop-party : goal.invariant-loop-party
invariant-loop-party l = record {
  left : Unfinished l.fn.out.bytes.now l.fn.out.at (parties_text l.parties) l.out.bytes.now l.out.at (parties_text (drop l.party-index l.parties));
  len : length l.out.bytes.now ≡ length l.fn.out.bytes.now;
  same_reference : l.out.bytes.ghost_name ≡ l.fn.out.bytes.ghost_name;
}
