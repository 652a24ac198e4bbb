-- At bit c the names of the bits before it are written.
use Rattle.std.proofs.Common.{◌≡◌, length, map}
use Rattle.rules.specs.Names.{bits_in}
use Rattle.numbers.proofs.Placed.{Unfinished}
use Rattle.roster_file.specs.Printed.{names_text}
use Rattle.roster_print.specs.Answers.{named}
use Rattle.roster_print.proofs.Texts.{names_from}
use Rattle.roster_print.proofs.render_word.Given as goal

abbrev pub invariant-loop-c : goal.invariant-loop-c
invariant-loop-c l = record {
  len : length l.out.bytes.now ≡ length l.fn.out.bytes.now;
  same_reference : l.out.bytes.ghost_name ≡ l.fn.out.bytes.ghost_name;
  left : Unfinished l.fn.out.bytes.now l.fn.out.at (names_text l.party (map (named l.kind) (bits_in l.w))) l.out.bytes.now l.out.at
      (names_from l.party (named l.kind) l.w l.c);
}
