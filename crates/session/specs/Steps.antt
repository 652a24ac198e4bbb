-- What the code's session stands for, and what one line or one turn does to it.
use Rattle.std.specs.Prelude.{◌≡◌, List, [], ◌∷◌, ◌++◌, ℕ, suc, ◌+◌, ◌≤◌, Option, Some, None, Result, Ok, Err}
use Rattle.std.proofs.Math.Option as math
use Rattle.std.proofs.Math.Option.{some, none}
use Rattle.rules.specs.Calls.{done, found, nothing, refused}
use Rattle.rules.specs.Calls as calls
use Rattle.rules.specs.Words.{zeros, Exit, opening}
use Rattle.rules.specs.Runs.{found_in}
use Rattle.refusal.specs.Numbers.{number}
use Rattle.refusal.specs.declared.Refusal.{Refusal}
use Rattle.numbers.specs.Parts.{parts}
use Rattle.numbers.specs.Written.{Written}
use Rattle.session.specs.Transcript.{Phase, giving, running, given, reply_text, line_step, transcript}
use Rattle.session.specs.declared.Answer.{Answer}
use Rattle.session.specs.declared.Answer.TheVariants as answer
use Rattle.session.specs.declared.LineStart.{LineStart}
use Rattle.session.specs.declared.Session.{Session}
use Rattle.session.specs.declared.Session.TheVariants.{Giving, Running}

-- C5: "done", "found" with the count, "none", or the refusal's number
abbrev pub meant_answer : Result Answer Refusal → calls.Answer
meant_answer (Ok answer.Done) = done
meant_answer (Ok (answer.Found n)) = found n
meant_answer (Ok answer.Nothing) = nothing
meant_answer (Err r) = refused (number r)

-- G8: how many fields an answer comes with
abbrev pub count_of : calls.Answer → ℕ
count_of done = 0
count_of (found n) = n
count_of nothing = 0
count_of (refused n) = 0

-- T20: the phase that a session stands for, with its roster and its space
abbrev pub phase_of : Session → List ℕ → List ℕ → Phase
phase_of Giving roster space = giving roster
phase_of (Running n) roster space = running space n

-- T20: how many calls were made
abbrev pub calls_of : Session → ℕ
calls_of Giving = 0
calls_of (Running n) = n

-- T20: the space that the next call is made of
abbrev pub opened_space : Session → List ℕ → List ℕ → List ℕ
opened_space Giving roster space = (opening space roster).space
opened_space (Running n) roster space = space

-- until the first call the space is all 0
abbrev pub Ready : Session → List ℕ → Type 0
Ready Giving space = space ≡ zeros 1809
Ready (Running n) space = Unit {0}

-- the roster is given to until the first call
abbrev pub Keeps : Session → List ℕ → List ℕ → Type 0
Keeps Giving roster roster' = Unit {0}
Keeps (Running n) roster roster' = roster' ≡ roster

-- the session goes on: what the line does to the phase, and its text, printed at the front of the lent bytes
pub record Goes (ph : Phase) (line : List ℕ) (s t : Session) (roster₀ roster space out after : List ℕ) (k : ℕ) : Type 0 where
  pub text : List ℕ
  pub stepped : line_step ph line ≡ some (phase_of t roster space, text)
  pub written : Written out 0 text after k
  pub ready : Ready t space
  pub calls : calls_of t ≤ calls_of s + 1
  pub kept : Keeps t roster₀ roster

-- T12, T20: a gift
abbrev pub Gave : Option (Session × ℕ) → Session → ℕ → math.Option ℕ → math.Option ℕ → List ℕ → List ℕ → Type 0
Gave None s who p k roster roster' = ((n : ℕ) × (s ≡ Running n)) × (roster' ≡ roster)
Gave (Some r) s who p k roster roster' = (s ≡ Giving) × (roster' ≡ given who p k roster) × (r ≡ (Giving, 0))

-- C5, G8: a call was made: its answer, the space as it leaves it, and the found fields at the front of the result words
pub record Made (a : calls.Answer) (space result : List ℕ) (x : Exit) : Type 0 where
  pub answer : a ≡ x.answer
  pub left : space ≡ x.space
  pub fields : found_in a result ≡ found_in x.answer x.result

-- T21: a call's reply is printed, and the space is as the call leaves it
pub record Replied (number : ℕ) (x : Exit) (space out after : List ℕ) (k : ℕ) : Type 0 where
  pub left : space ≡ x.space
  pub written : Written out 0 (reply_text number x) after k

-- T20: one line
abbrev pub StepIs : Option (Session × ℕ) → Session → List ℕ → List ℕ → List ℕ → List ℕ → List ℕ → List ℕ → List ℕ → Type 0
StepIs None s line roster roster' space space' out out' =
    (line_step (phase_of s roster space) line ≡ none) × (roster' ≡ roster) × (space' ≡ space) × (out' ≡ out)
StepIs (Some r) s line roster roster' space space' out out' = Goes (phase_of s roster space) line s r.0 roster roster' space' out out' r.1

-- T22, T25: the output is the printed text, and the output from the next line on
pub record Turned (whole : List ℕ) (out after : List ℕ) (k : ℕ) (more : List ℕ) : Type 0 where
  pub text : List ℕ
  pub adds : whole ≡ text ++ more
  pub written : Written out 0 text after k

-- T25: what a turn leaves to be printed
abbrev pub more_after : Option LineStart → List ℕ → List ℕ → List ℕ
more_after None roster space = []
more_after (Some next) roster space = transcript (phase_of next.session roster space) next.number (parts 10 next.lines.now)

-- T25: the lines without the first, which a line feed ends
abbrev pub LaterLines : List ℕ → List ℕ → Type 0
LaterLines lines later = (line : List ℕ) × (lines ≡ line ++ (10 ∷ later))

-- what holds where the session goes on: the next line begins further on, and has the next number
abbrev pub Onward : Option LineStart → List ℕ → ℕ → ℕ → List ℕ → Type 0
Onward None lines number calls space = Unit {0}
Onward (Some next) lines number calls space =
    LaterLines lines next.lines.now × (next.number ≡ suc number) × Ready next.session space × (calls_of next.session ≤ calls + 1)

-- the words that a turn keeps: all of them where the input is done with, and the roster once the space is open
abbrev pub Kept : Option LineStart → List ℕ → List ℕ → List ℕ → List ℕ → Type 0
Kept None roster roster' space space' = (roster' ≡ roster) × (space' ≡ space)
Kept (Some next) roster roster' space space' = Keeps next.session roster roster'
