-- What the lines that are left come to, with what the words hold now, stays the same line by line.
use Rattle.std.proofs.Common.{◌≡◌, length}
use Rattle.numbers.specs.Parts.{parts}
use Rattle.roster_file.specs.File.{read_lines}
use Rattle.roster_file.proofs.read_lines.Given as goal

abbrev pub invariant-loop-lines : goal.invariant-loop-lines
invariant-loop-lines l = record {
  sixteen : length l.words ≡ 16;
  reads : read_lines l.fn.words (parts 10 l.fn.file) ≡ read_lines l.words (parts 10 l.lines);
}

abbrev pub decreases-loop-lines : goal.decreases-loop-lines
decreases-loop-lines l = length l.lines
