-- What a read line does to a session, and what a line adds to the output.
use Prim.Native.Nat.{ℕ, ◌+◌}
use mathlib.Core.Path.{◌≡◌, refl, sym, ap, ◌∙◌}
use mathlib.Core.Logic.{◌⊎◌, inl, inr}
use mathlib.Core.Bool.{true, false}
use mathlib.Core.Option.{Option, none, some}
use mathlib.Core.List.{List, [], ◌∷◌, ◌++◌, append-nil}
use native.Mathlib.Omega.{arith}
use native.Mathlib.Nat.{le_refl}
use native.Mathlib.Numerals.{add-one}
use borrow.Author.Tests.{le-ltb}
use lib.ListN.{length}
use Rattle.rules.specs.Calls.{Call}
use Rattle.rules.specs.Words.{zeros, call}
use Rattle.rules.proofs.ListLaws.{bool}
use Rattle.numbers.specs.Parts.{before, beyond, parts, same}
use Rattle.numbers.specs.Lines.{lines_after, begun_with}
use Rattle.numbers.proofs.Placing.{written_none}
use Rattle.lines.specs.Lines.{give, ask, read_line}
use Rattle.session.specs.Transcript.{giving, running, given, reply_text, line_step, unreadable}
use Rattle.session.specs.Transcript.{input_names, output_names, at_end, transcript, from_start}
use Rattle.session.specs.Steps.{phase_of, calls_of, opened_space, Ready, Goes, Replied}
use Rattle.session.specs.declared.Session.{Session}
use Rattle.session.specs.declared.Session.TheVariants.{Giving, Running}

module _ (line : List ℕ) where
  pub step-unreadable : (s : Session) (roster space : List ℕ) → read_line line ≡ none → line_step (phase_of s roster space) line ≡ none
  unfolding line_step
  step-unreadable s roster space e = rw e refl

  pub step-late : (space : List ℕ) (n who : ℕ) (p k : Option ℕ) → read_line line ≡ some (give who p k) → line_step (running space n) line ≡ none
  unfolding line_step
  step-late space n who p k e = rw e refl

  pub step-give : (roster : List ℕ) (who : ℕ) (p k : Option ℕ) → read_line line ≡ some (give who p k)
      → line_step (giving roster) line ≡ some (giving (given who p k roster), [])
  unfolding line_step
  step-give roster who p k e = rw e refl

  pub step-ask : (s : Session) (roster space : List ℕ) (c : Call (List ℕ)) → read_line line ≡ some (ask c) → Ready s space
      → line_step (phase_of s roster space) line
      ≡ some (running (call (opened_space s roster space) c).space (calls_of s + 1), reply_text (calls_of s + 1) (call (opened_space s roster space) c))
  unfolding line_step
  step-ask Giving roster space c e r = rw (e, r) refl
  step-ask (Running n) roster space c e r = rw (e, add-one n) refl

-- ---- a line that asks for a call: the space is opened first where it wasn't, and the reply is printed
module _ (s : Session) (roster space line : List ℕ) (c : Call (List ℕ)) (ready : Ready s space) (read : read_line line ≡ some (ask c)) where
  pub asked-goes : (ws left out after : List ℕ) (k n : ℕ) → n ≡ calls_of s → ws ≡ opened_space s roster space → Replied (n + 1) (call ws c) left out after k
      → Goes (phase_of s roster space) line s (Running (n + 1)) roster roster left out after k
  asked-goes ws left out after k n q e r =
      record {
        text = reply_text (n + 1) (call ws c);
        stepped = step-ask line s roster space c read ready ∙ rw (← e, ← q, ← r.left) refl;
        written = r.written;
        ready = tt;
        calls = omega arith;
        kept = refl;
      }

-- a line that gives a name, before the first call
pub give-goes : (roster space line out : List ℕ) (who : ℕ) (p k : Option ℕ) → Ready Giving space → read_line line ≡ some (give who p k)
    → Goes (giving roster) line Giving Giving roster (given who p k roster) space out out 0
give-goes roster space line out who p k ready read =
    record {
      text = [];
      stepped = step-give line roster who p k read;
      written = written_none out 0;
      ready = ready;
      calls = omega arith;
      kept = tt;
    }

-- ---- nothing stands after the last line feed

pub ended : (n : ℕ) (l : List ℕ) → length l ≡ 0 → at_end n l ≡ []
ended n [] h = refl
ended n (b ∷ l) h = absurd (omega arith)

-- ---- the first line

lines-are : (input : List ℕ) → begun_with (length input) input_names input ≡ lines_after input_names (parts 10 input)
unfolding begun_with
lines-are input = rw (le-ltb (length input) (length input) (le_refl (length input))) refl

pub start-other : (input : List ℕ) → begun_with (length input) input_names input ≡ none → from_start (parts 10 input) ≡ unreadable 1 ++ []
start-other input e = go (before 10 input) (beyond 10 input) (sym (lines-are input) ∙ e)
  where
    go : (l : List ℕ) (ls : List (List ℕ)) → lines_after input_names (l ∷ ls) ≡ none → from_start (l ∷ ls) ≡ unreadable 1 ++ []
    go l [] q = sym (append-nil (unreadable 1))
    go l (m ∷ ls) q = by_names (bool (same l input_names))
      where
        by_names : (same l input_names ≡ true) ⊎ (same l input_names ≡ false) → from_start (l ∷ m ∷ ls) ≡ unreadable 1 ++ []
        by_names (inl h) = let r : some (m ∷ ls) ≡ none = rw h at q in let z : ◌≡◌ {A = ℕ} 0 1 = cc in absurd (omega arith)
        by_names (inr h) = rw h (sym (append-nil (unreadable 1)))

pub start-names : (input rest : List ℕ) → begun_with (length input) input_names input ≡ some (parts 10 rest)
    → from_start (parts 10 input) ≡ output_names ++ transcript (giving (zeros 16)) 2 (parts 10 rest)
start-names input rest e = go (before 10 input) (beyond 10 input) (sym (lines-are input) ∙ e)
  where
    go : (l : List ℕ) (ls : List (List ℕ)) → lines_after input_names (l ∷ ls) ≡ some (parts 10 rest)
        → from_start (l ∷ ls) ≡ output_names ++ transcript (giving (zeros 16)) 2 (parts 10 rest)
    go l [] q = let z : ◌≡◌ {A = ℕ} 0 1 = cc in absurd (omega arith)
    go l (m ∷ ls) q = by_names (bool (same l input_names))
      where
        by_names : (same l input_names ≡ true) ⊎ (same l input_names ≡ false)
            → from_start (l ∷ m ∷ ls) ≡ output_names ++ transcript (giving (zeros 16)) 2 (parts 10 rest)
        by_names (inl h) =
            let r : some (m ∷ ls) ≡ some (parts 10 rest) = rw h at q in
            let w : m ∷ ls ≡ parts 10 rest = cc in
            rw h (ap (λ (x : List (List ℕ)). output_names ++ transcript (giving (zeros 16)) 2 x) w)
        by_names (inr h) = let r : none ≡ some (parts 10 rest) = rw h at q in let z : ◌≡◌ {A = ℕ} 0 1 = cc in absurd (omega arith)
