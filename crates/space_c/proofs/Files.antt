-- What the reader of a roster answered, as the contract in C has it.
use Prim.Native.Nat.{ℕ, ◌+◌}
use mathlib.Core.Path.{◌≡◌, refl, ap}
use mathlib.Core.List.{List}
use borrow.Author.Tests.{eq-eqb, ne_eqb}
use lib.ListN.{length}
use Rattle.std.specs.Prelude.{Result, Ok, Err}
use Rattle.refusal.specs.declared.Refusal.{Refusal}
use Rattle.refusal.specs.Numbers.{number, numbered}
use Rattle.roster_file.specs.File.{Outcome, accepted, refused, read_file}
use Rattle.roster_file.specs.Answers.{ReadAs}
use Rattle.space.specs.Answers.{done_meant}
use Rattle.space_c.specs.Codes.{code_of, read_into, Read}

pub other_length : (file words : List ℕ) → (length words ≡ 16 → ⊥) → Read 109 words words (read_into file words)
unfolding read_into
other_length file words n = rw (ne_eqb (length words) 16 n) (record { code = refl; words = refl })

as-code : (o : Outcome) (r : Result (Unit {0}) Refusal) (words after : List ℕ) → ReadAs o r words after → Read (code_of (done_meant r)) words after o
as-code (accepted roster) r words after h = record { code = ap (λ (r : Result (Unit {0}) Refusal). code_of (done_meant r)) h.0; words = h.1 }
as-code (refused n) r words after h = record { code = go r h.0; words = h.1 }
  where
    go : (r : Result (Unit {0}) Refusal) → ◌≡◌ {A = Result (Unit {0}) ℕ} (numbered r) (Err n) → code_of (done_meant r) ≡ 100 + n
    go (Ok u) q = absurd cc
    go (Err e) q = let x : number e ≡ n = cc in ap (λ k. 100 + k) x

pub read-code : (file words : List ℕ) → length words ≡ 16 → (r : Result (Unit {0}) Refusal) (after : List ℕ) → ReadAs (read_file file) r words after
    → (k : ℕ) → k ≡ code_of (done_meant r) → Read k words after (read_into file words)
unfolding read_into
read-code file words sixteen r after a k e = rw (eq-eqb (length words) 16 sixteen, e) (as-code (read_file file) r words after a)
