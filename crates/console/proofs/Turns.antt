-- What holds whenever the console is about to print: fewer bytes are left each time, past a line feed for each line before them.
use Prim.Native.Nat.{ℕ, suc, ◌+◌, ◌≤◌, ◌<◌}
use mathlib.Core.Path.{ap, ◌∙◌}
use mathlib.Core.List.{List, ◌∷◌}
use native.Mathlib.Omega.{arith}
use lib.ListN.{length, length-append}
use Rattle.std.specs.Prelude.{Option, Some, None}
use Rattle.session.specs.Steps.{Ready, calls_of, LaterLines, Onward}
use Rattle.session.specs.declared.LineStart.{LineStart}

-- where the session goes on: no number is above the bytes before it
abbrev pub Fine : Option LineStart → List ℕ → Type 0
Fine None space = Unit {0}
Fine (Some next) space =
    (next.number + length next.lines.now ≤ 65537) × Ready next.session space × (calls_of next.session + 1 ≤ next.number)

-- how many bytes are left, and one for the turn itself
abbrev pub left : Option LineStart → ℕ
left None = 0
left (Some next) = suc (length next.lines.now)

later-shorter : (lines later : List ℕ) → LaterLines lines later → length later < length lines
later-shorter lines later h =
    let e = ap length h.1 ∙ length-append h.0 (10 ∷ later) in
    omega arith

module _ (lines : List ℕ) (number calls : ℕ) (space : List ℕ) where
  pub turn-fine : (r : Option LineStart) → Onward r lines number calls space → number + length lines ≤ 65537 → calls + 1 ≤ number → Fine r space
  turn-fine None h a b = tt
  turn-fine (Some next) h a b =
      let l = later-shorter lines next.lines.now h.0 in
      (omega (arith, l, h.1), h.2, omega (arith, h.1, h.3))

  pub turn-less : (r : Option LineStart) → Onward r lines number calls space → left r < suc (length lines)
  turn-less None h = omega arith
  turn-less (Some next) h = let l = later-shorter lines next.lines.now h.0 in omega arith
