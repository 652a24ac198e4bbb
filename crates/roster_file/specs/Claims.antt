-- What is claimed of roster files.
use Rattle.std.specs.Prelude.{◌≡◌, ◌⊎◌, ◌≢◌, true, false, ◌&&◌, List, [], ◌∷◌, ◌++◌, ℕ, ◌+◌, ◌^◌, ◌<◌, leb, ℤ, length, get_or}
use Rattle.std.proofs.Math.Option.{some}
use Rattle.rules.specs.Lists.{All, In}
use Rattle.rules.specs.Names.{Name, held_in}
use Rattle.rules.specs.Calls.{done}
use Rattle.rules.specs.Words.{bad_roster, opening}
use Rattle.rules.specs.Claims.{Iff}
use Rattle.numbers.specs.Numbers.{natural, whole}
use Rattle.numbers.specs.Parts.{parts}
use Rattle.numbers.specs.Lines.{BadStart, Begun}
use Rattle.roster_line.specs.Rights.{Kind, kind_of, in_range, gives, faulty, read_line}
use Rattle.roster_file.specs.File.{accepted, refused, names_line, read_file}
use Rattle.roster_file.specs.Printed.{printed, output}

-- ---- what a file gives

-- D4: the file has a line that gives the party the name
abbrev pub LineGives : List ℕ → ℕ → Name → Type 0
LineGives file who n = (line : List ℕ) × (In line (parts 10 file) × (read_line line ≡ gives who n))

-- D4: the roster of an accepted file gives each party exactly the names that a line gives it
abbrev pub FileGives : Type 0
FileGives =
    (file roster : List ℕ) → read_file file ≡ accepted roster → (who : ℕ) (n : Name) → who < 8
    → Iff (held_in (get_or roster who 0) (get_or roster (8 + who) 0) n ≡ true) (LineGives file who n)

-- C1: an opening accepts the roster: 16 words of 64 bits, and bit 63 of every key word is clear
pub record Accepts (roster : List ℕ) : Type 0 where
  pub words : All (λ w. w < 2 ^ 64) roster
  pub good : bad_roster roster ≡ false

-- D7: the roster of an accepted file is one that every opening of 1,809 words accepts
abbrev pub AcceptedOpens : Type 0
AcceptedOpens =
    (file roster : List ℕ) → read_file file ≡ accepted roster
    → Accepts roster × ((ws : List ℕ) → length ws ≡ 1809 → (opening ws roster).answer ≡ done)

-- ---- printed, and read back

-- D6: a roster that an opening accepts is printed by a file, itself, and read back it is the same roster
abbrev pub EveryRosterReadsBack : Type 0
EveryRosterReadsBack =
    (roster : List ℕ) → Accepts roster → (read_file (printed roster) ≡ accepted roster) × (output (printed roster) ≡ printed roster)

-- D6: what is printed of an accepted file gives the same roster, and so prints the same
abbrev pub OutputReadsBack : Type 0
OutputReadsBack =
    (file roster : List ℕ) → read_file file ≡ accepted roster
    → (read_file (output file) ≡ accepted roster) × (output (output file) ≡ output file)

-- D6: two accepted files that print alike give the same roster, and the same opening
abbrev pub AlikeOpensAlike : Type 0
AlikeOpensAlike =
    (f g r s : List ℕ) → read_file f ≡ accepted r → read_file g ≡ accepted s → output f ≡ output g
    → (r ≡ s) × ((ws : List ℕ) → opening ws r ≡ opening ws s)

-- ---- when a file is refused

-- D2, D3: the line can be read: three items with one blank (32) between, which read as a party, a kind and a number
pub record Readable (line : List ℕ) : Type 0 where
  pub first : List ℕ
  pub second : List ℕ
  pub third : List ℕ
  pub party : ℕ
  pub kind : Kind
  pub number : ℤ
  pub items : parts 32 line ≡ first ∷ second ∷ third ∷ []
  pub first_reads : natural first ≡ some party
  pub second_reads : kind_of second ≡ some kind
  pub third_reads : whole third ≡ some number

-- R12: a number is out of its range
abbrev pub OutOfRange : {line : List ℕ} → Readable line → Type 0
OutOfRange r = leb r.party 7 && in_range r.kind r.number ≡ false

-- R11, R12: a line is faulty by 11 exactly if it can't be read, and by 12 exactly if it can and a number is out of its range
pub record Faults (line : List ℕ) : Type 0 where
  pub eleven : Iff (read_line line ≡ faulty 11) (¬ Readable line)
  pub twelve : Iff (read_line line ≡ faulty 12) ((r : Readable line) × OutOfRange r)
  pub no_other : (n : ℕ) → read_line line ≡ faulty n → (n ≡ 11) ⊎ (n ≡ 12)

abbrev pub LineFaults : Type 0
LineFaults = (line : List ℕ) → Faults line

-- R11, R12: what stands at a place of the file: a line that is faulty by n, or at the end something that no line feed ends
abbrev pub FaultyBy : ℕ → List ℕ → List (List ℕ) → Type 0
FaultyBy n last [] = (last ≢ []) × (n ≡ 11)
FaultyBy n line (m ∷ ms) = read_line line ≡ faulty n

abbrev pub GivesRight : List ℕ → Type 0
GivesRight line = (who : ℕ) × ((n : Name) × (read_line line ≡ gives who n))

-- the first faulty line: all lines before it give rights
pub record FirstFault (n : ℕ) (rest : List ℕ) : Type 0 where
  pub before : List (List ℕ)
  pub line : List ℕ
  pub after : List (List ℕ)
  pub lines : parts 10 rest ≡ before ++ (line ∷ after)
  pub good : All GivesRight before
  pub fault : FaultyBy n line after

-- D5: refused by 10 exactly if the start is bad; else by the first faulty line, if there is one
pub record Refuses (file : List ℕ) : Type 0 where
  pub ten : Iff (read_file file ≡ refused 10) (BadStart 16384 names_line file)
  pub lines : (rest : List ℕ) → Begun 16384 names_line file rest → (n : ℕ) → Iff (read_file file ≡ refused n) (FirstFault n rest)

abbrev pub FirstFaultDecides : Type 0
FirstFaultDecides = (file : List ℕ) → Refuses file
