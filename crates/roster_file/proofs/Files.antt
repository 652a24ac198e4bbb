-- A file line by line: what the lines so far have given, and the lines from here on, decide.
use Prim.Native.Nat.{ℕ, ◌+◌, ◌≤◌}
use mathlib.Core.Path.{◌≡◌, refl, sym, ap}
use mathlib.Core.List.{List, ◌∷◌}
use mathlib.Core.Option.{none, some}
use native.Mathlib.Omega.{arith}
use Rattle.std.specs.Prelude.{Option, Result, Ok, Err, IsErrAnd}
use Rattle.std.specs.Option.{ok_or}
use Rattle.refusal.specs.declared.Refusal.{Refusal}
use Rattle.refusal.specs.declared.Refusal.TheVariants.{BadFile}
use Rattle.refusal.specs.Numbers.{number, numbered}
use lib.ListN.{length}
use Rattle.rules.specs.Names.{Name, NameInRange, set_bit}
use Rattle.rules.specs.Words.{zeros}
use Rattle.numbers.specs.Parts.{parts}
use Rattle.roster_line.specs.declared.Right.{Right}
use Rattle.roster_line.specs.Rights.{Said, gives, faulty, read_line, with_right}
use Rattle.roster_line.specs.Answers.{right_for, line_is}
use Rattle.roster_line.proofs.Lines.{InRange, line-in-range, refused-by}
use Rattle.numbers.specs.Lines.{begun_with}
use Rattle.roster_file.specs.File.{Outcome, accepted, refused, read_lines, names_line, from_start, read_file}
use Rattle.roster_file.specs.Answers.{FirstLine, Went, ReadAs}

-- ---- the first line

-- D4: what a line says that gives a bit
abbrev Giving : Said → Right → Type 0
Giving s r = (who : ℕ) × ((n : Name) × ((s ≡ gives who n) × (who ≤ 7) × NameInRange n × (r ≡ right_for who n)))

said-right : (s : Said) (r : Right) → Ok r ≡ line_is s → InRange s → Giving s r
said-right (gives who n) r q h =
    let e : r ≡ right_for who n = cc in (who, (n, (refl, h.0, h.1, e)))
said-right (faulty n) r q h = let z : ◌≡◌ {A = ℕ} 0 1 = cc in absurd (omega arith)

pub line-first : (lines line rest : List ℕ) (r : Right) → parts 10 lines ≡ line ∷ parts 10 rest → length line + 1 + length rest ≡ length lines
    → Ok r ≡ line_is (read_line line) → FirstLine lines r rest
line-first lines line rest r first l q =
    let g = said-right (read_line line) r q (line-in-range line) in
    record { line = line; who = g.0; name = g.1.0; first = first; says = g.1.1.0; party = g.1.1.1; range = g.1.1.2; right = g.1.1.3; shorter = omega arith }

pub first-reads : (lines rest : List ℕ) (r : Right) → FirstLine lines r rest → (words : List ℕ)
    → read_lines words (parts 10 lines) ≡ read_lines (set_bit r.word r.bit words) (parts 10 rest)
unfolding with_right
first-reads lines rest r f words = rw (f.first, f.says, f.right) refl

-- ---- the start

module _ (file : List ℕ) where
  pub start-read : (lines : List (List ℕ)) → begun_with 16384 names_line file ≡ some lines → read_file file ≡ read_lines (zeros 16) lines
  unfolding read_file
  start-read lines e = ap from_start e

  pub start-refused : begun_with 16384 names_line file ≡ none → read_file file ≡ refused 10
  unfolding read_file
  start-refused e = ap from_start e

  pub start-refuses : begun_with 16384 names_line file ≡ none → {A : Type 0} (o : Option A) (r : Result (Unit {0}) Refusal) (e : Refusal)
      → IsErrAnd r (λ y. y ≡ e) → Err e ≡ ok_or o BadFile → (words : List ℕ) → ReadAs (read_file file) r words words
  start-refuses n o r e h q words = rw (start-refused n, refused-by o r e BadFile h q) (refl, refl)

-- ---- what the lines came to is what the file comes to

pub went-read : (o : Outcome) (read words : List ℕ) → Went o (Ok tt) read → ReadAs o (Ok tt) words read
went-read (accepted roster) read words w = w
went-read (refused n) read words w = let z : ◌≡◌ {A = ℕ} 0 1 = cc in absurd (omega arith)

pub went-unread : (o : Outcome) (e : Refusal) (read words : List ℕ) → Went o (Err e) read → ReadAs o (Err e) words words
went-unread (accepted roster) e read words w = let z : ◌≡◌ {A = ℕ} 0 1 = cc in absurd (omega arith)
went-unread (refused n) e read words w = (w, refl)

-- ---- what the reader's answer says of the file

module _ (o : Outcome) (r : Result (Unit {0}) Refusal) (words after : List ℕ) (a : ReadAs o r words after) where
  pub given-outcome : r ≡ Ok tt → o ≡ accepted after
  given-outcome e = go o a
    where
      go : (o : Outcome) → ReadAs o r words after → o ≡ accepted after
      go (accepted roster) b = ap accepted (sym b.1)
      go (refused n) b = let q : numbered r ≡ Ok tt = ap numbered e in let z : ◌≡◌ {A = ℕ} 0 1 = cc in absurd (omega arith)

  pub refused-outcome : (e : Refusal) → r ≡ Err e → (o ≡ refused (number e)) × (after ≡ words)
  refused-outcome e h = go o a
    where
      go : (o : Outcome) → ReadAs o r words after → (o ≡ refused (number e)) × (after ≡ words)
      go (accepted roster) b = let z : ◌≡◌ {A = ℕ} 0 1 = cc in absurd (omega arith)
      go (refused n) b = let q : numbered r ≡ Err (number e) = ap numbered h in let x : n ≡ number e = cc in (ap refused x, b.1)
