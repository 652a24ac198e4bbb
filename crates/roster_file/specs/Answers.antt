-- What the code's readers answer, as what the definitions give.
use Rattle.std.specs.Prelude.{◌≡◌, List, ◌∷◌, ◌++◌, ℕ, ◌≤◌, ◌<◌, length, Result, Ok, Err}
use Rattle.refusal.specs.declared.Refusal.{Refusal}
use Rattle.refusal.specs.Numbers.{number, numbered}
use Rattle.rules.specs.Names.{Name, NameInRange}
use Rattle.numbers.specs.Parts.{parts}
use Rattle.roster_line.specs.Rights.{gives, read_line}
use Rattle.roster_line.specs.Answers.{right_for}
use Rattle.roster_line.specs.declared.Right.{Right}
use Rattle.roster_file.specs.File.{Outcome, accepted, refused, read_lines}
use Rattle.roster_file.specs.Printed.{name_text, right_text}

-- ---- a usual line: the line of a right as it is printed

-- first the text and a line feed, and then the rest
abbrev pub Stands : List ℕ → List ℕ → List ℕ → Type 0
Stands lines text rest = lines ≡ text ++ (10 ∷ rest)

-- D2: first the kind and the number of a name
pub record NameAt (text : List ℕ) (who : ℕ) (r : Right) (rest : List ℕ) : Type 0 where
  pub name : Name
  pub range : NameInRange name
  pub right : r ≡ right_for who name
  pub stands : Stands text (name_text name) rest

-- D2: first the line of a right
pub record RightAt (lines : List ℕ) (r : Right) (rest : List ℕ) : Type 0 where
  pub who : ℕ
  pub name : Name
  pub party : who ≤ 7
  pub range : NameInRange name
  pub right : r ≡ right_for who name
  pub stands : Stands lines (right_text who name) rest

-- ---- the file

-- D4: the first line gives a right, and the rest follows
pub record FirstLine (lines : List ℕ) (r : Right) (rest : List ℕ) : Type 0 where
  pub line : List ℕ
  pub who : ℕ
  pub name : Name
  pub first : parts 10 lines ≡ line ∷ parts 10 rest
  pub says : read_line line ≡ gives who name
  pub party : who ≤ 7
  pub range : NameInRange name
  pub right : r ≡ right_for who name
  pub shorter : length rest < length lines

-- D5: the first line is faulty and decides
abbrev pub Faulty : List ℕ → Refusal → Type 0
Faulty lines e = (words : List ℕ) → read_lines words (parts 10 lines) ≡ refused (number e)

-- D5: the words hold the roster, if no line is faulty
abbrev pub Went : Outcome → Result (Unit {0}) Refusal → List ℕ → Type 0
Went (accepted roster) r words = (r ≡ Ok tt) × (words ≡ roster)
Went (refused n) r words = numbered r ≡ Err n

-- D5: the words hold the roster that the file gives, or it is refused and they are as they were
abbrev pub ReadAs : Outcome → Result (Unit {0}) Refusal → List ℕ → List ℕ → Type 0
ReadAs (accepted roster) r words after = (r ≡ Ok tt) × (after ≡ roster)
ReadAs (refused n) r words after = (numbered r ≡ Err n) × (after ≡ words)
