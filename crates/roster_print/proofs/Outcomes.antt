-- What is printed, and what becomes of the space, by what the file came to.
use Prim.Native.Nat.{ℕ, ◌≤◌}
use mathlib.Core.Path.{◌≡◌, refl, sym, subst}
use mathlib.Core.List.{List}
use native.Mathlib.Omega.{arith}
use lib.ListN.{length}
use Rattle.std.specs.Prelude.{Ok, Err}
use Rattle.refusal.specs.declared.Refusal.{Refusal}
use Rattle.refusal.specs.Numbers.{number}
use Rattle.rules.specs.Words.{opening}
use Rattle.numbers.specs.Numbers.{refusal_text}
use Rattle.numbers.specs.Written.{Written}
use Rattle.numbers.proofs.Keys.{refusal-short}
use Rattle.roster_file.specs.File.{Outcome, refused, read_file}
use Rattle.roster_file.specs.Printed.{printed, output_of, output}
use Rattle.roster_file.specs.Answers.{ReadAs}
use Rattle.roster_file.proofs.Files.{given-outcome, refused-outcome}
use Rattle.roster_file.proofs.Faults.{refusal-small}
use Rattle.roster_print.specs.Answers.{SetUpBy}

module _ (file words : List ℕ) (after : List ℕ) where
  module _ (a : ReadAs (read_file file) (Ok tt) words after) where
    pub given-output : (out : List ℕ) (at : ℕ) (out' : List ℕ) (k : ℕ) → Written out at (printed after) out' k → Written out at (output file) out' k
    unfolding output_of
    given-output out at out' k w =
        subst (λ (o : Outcome). Written out at (output_of o) out' k) (sym (given-outcome (read_file file) (Ok tt) words after a refl)) w

    pub given-opens : (space space' : List ℕ) → space' ≡ (opening space after).space → SetUpBy (read_file file) (Ok tt) words after space space'
    given-opens space space' e =
        subst (λ (o : Outcome). SetUpBy o (Ok tt) words after space space') (sym (given-outcome (read_file file) (Ok tt) words after a refl)) (refl, refl, e)

  module _ (e : Refusal) (a : ReadAs (read_file file) (Err e) words after) where
    outcome : (read_file file ≡ refused (number e)) × (after ≡ words)
    outcome = refused-outcome (read_file file) (Err e) words after a e refl

    pub refused-short : length (refusal_text (number e)) ≤ 5
    refused-short = refusal-short (number e) (omega (arith, refusal-small file (number e) outcome.0))

    pub refused-output : (out : List ℕ) (at : ℕ) (out' : List ℕ) (k : ℕ) → Written out at (refusal_text (number e)) out' k → Written out at (output file) out' k
    unfolding output_of
    refused-output out at out' k w = subst (λ (o : Outcome). Written out at (output_of o) out' k) (sym outcome.0) w

    pub refused-keeps : (space : List ℕ) → SetUpBy (read_file file) (Err e) words after space space
    refused-keeps space = subst (λ (o : Outcome). SetUpBy o (Err e) words after space space) (sym outcome.0) (refl, outcome.1, refl)
