-- The audit's answers: soundness as the code's tests decide it, one after the other.
use mathlib.Core.Path.{◌≡◌, refl, sym, ◌∙◌}
use mathlib.Core.Bool.{true, false, and-true}
use mathlib.Core.List.{List}
use Prim.Native.Nat.{ℕ, ◌≤◌, ◌<◌}
use native.Mathlib.Omega.{arith}
use borrow.Author.Tests.{eq-eqb, le-leb}
use lib.ListN.{length, get_or, drop}
use Rattle.std.specs.Prelude.{Some, None}
use Rattle.rules.specs.Lists.{all}
use Rattle.rules.specs.State.{live}
use Rattle.rules.specs.Words.{row_start, decode, is_zero, holdings_ok, sound}
use Rattle.rules.proofs.Back.{wf-decode, live-none}
use Rattle.audit.specs.Audited.{audited, Counted, AfterRows, AfterRowsFor}

pub unsound-audited : (ws : List ℕ) (who : ℕ) → sound ws ≡ false → None ≡ audited ws who
unfolding audited
unsound-audited ws who e = rw e

-- what the eight parties are answered is what the pass finds
pub all-answers : (ws counts : List ℕ) → ((who : ℕ) → who ≤ 7 → AfterRowsFor (Some (get_or counts who 0)) who ws) → AfterRows (Some counts) ws
all-answers ws counts answered =
    let first : Counted ws (answered 0 (omega arith)).0 = (answered 0 (omega arith)).1 in
    record {
      rows = first.rows;
      limits = first.limits;
      charges = λ who l. (answered who (omega arith)).2 l ∙ (answered who (omega arith)).1.charges who l;
    }

-- where all tests before the last pass, the words past the live rows decide
pub rest-decides : (ws counts : List ℕ) → length ws ≡ 1809 → get_or ws 0 0 ≤ 128 → holdings_ok (decode ws) ≡ true → Counted ws counts
    → sound ws ≡ all is_zero (drop (row_start (get_or ws 0 0)) ws)
unfolding sound
rest-decides ws counts len few held counted =
    rw (
      eq-eqb (length ws) 1809 len,
      le-leb (get_or ws 0 0) 128 few,
      held,
      counted.rows,
      counted.limits,
    ) (and-true (all is_zero (drop (row_start (get_or ws 0 0)) ws)))

module _ (ws : List ℕ) (who : ℕ) (s : sound ws ≡ true) where
  pub sound-audited : (n : ℕ) → n ≡ live who (decode ws).entries → Some n ≡ audited ws who
  unfolding audited
  sound-audited n e = rw (s, e) refl

  -- A1: in a sound space no entry names a writer past 7
  pub none-audited : 7 < who → Some 0 ≡ audited ws who
  none-audited h = sound-audited 0 (sym (live-none who (decode ws).entries (wf-decode ws s).rows h))
