-- The first line's right is set in the words.
use Rattle.std.proofs.Common.{ℕ, List, ◌∙◌, sym, ap, arith}
use Rattle.numbers.specs.Parts.{parts}
use Rattle.roster_file.specs.File.{read_lines}
use Rattle.roster_file.proofs.Files.{first-reads}
use Rattle.roster_file.proofs.read_lines.Goals as goal

pub loop-lines-preserved : goal.loop-lines-preserved
loop-lines-preserved c = record {
  sixteen = omega arith;
  reads = c.loop-lines.invariant.reads ∙ first-reads _ _ _ c.in_ok-right.ensures c.loop-lines.words
      ∙ ap (λ (ws : List ℕ). read_lines ws (parts 10 c.in_ok-right.rest.now)) (sym c.set_bit.ensures);
}
