-- What is claimed of files of pairs.
use Rattle.std.specs.Prelude.{◌≡◌, List, [], ◌∷◌, ℕ}
use Rattle.std.proofs.Math.Option.{some}
use Rattle.rules.specs.Claims.{Iff}
use Rattle.numbers.specs.Numbers.{natural}
use Rattle.numbers.specs.Parts.{parts}
use Rattle.numbers.specs.Lines.{BadStart, Begun}
use Rattle.start_order.specs.Pairs.{Pairs}
use Rattle.start_order.specs.Call.{refused, start_order}
use Rattle.order_file.specs.File.{names_line, read_file}

-- O6: the line is that of the pair: two items with one blank (32) between, which read as its numbers
pub record LineOf (line : List ℕ) (p : ℕ × ℕ) : Type 0 where
  pub first : List ℕ
  pub second : List ℕ
  pub items : parts 32 line ≡ first ∷ second ∷ []
  pub first_reads : natural first ≡ some p.0
  pub second_reads : natural second ≡ some p.1

-- O6: the lines are those of the pairs, one by one, and nothing stands after the last line feed
abbrev pub LinesOf : List (List ℕ) → Pairs → Type 0
LinesOf [] ps = ⊥
LinesOf (l ∷ []) ps = (l ≡ []) × (ps ≡ [])
LinesOf (l ∷ m ∷ ls) [] = ⊥
LinesOf (l ∷ m ∷ ls) (p ∷ ps) = LineOf l p × LinesOf (m ∷ ls) ps

-- O7: refused by 10 exactly if the start is bad; else by 11 exactly if its lines are no pairs' lines, wherever the fault is; else it
-- comes to what its pairs come to, with eight words lent
pub record ComesTo (file : List ℕ) : Type 0 where
  pub ten : Iff (read_file file ≡ refused 10) (BadStart 4096 names_line file)
  pub eleven : (rest : List ℕ) → Begun 4096 names_line file rest → Iff (read_file file ≡ refused 11) ((ps : Pairs) → ¬ LinesOf (parts 10 rest) ps)
  pub pairs : (rest : List ℕ) → Begun 4096 names_line file rest → (ps : Pairs) → LinesOf (parts 10 rest) ps → read_file file ≡ start_order ps 8

abbrev pub FileComesTo : Type 0
FileComesTo = (file : List ℕ) → ComesTo file
