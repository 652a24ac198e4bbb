-- The rows past the live ones, as the loop over them tests them: at row r, the words from there on decide.
use mathlib.Core.Path.{◌≡◌, ap, ◌∙◌}
use mathlib.Core.Bool.{Bool, false, not, ◌&&◌}
use mathlib.Core.List.{List}
use Prim.Native.Nat.{ℕ, ◌+◌}
use borrow.Author.Tests.{not-false}
use lib.ListN.{take, drop, take-append-drop}
use Rattle.rules.specs.Lists.{all}
use Rattle.rules.specs.Words.{is_zero}
use Rattle.rules.proofs.Loops.{all_append}
use Rattle.audit.proofs.Counting.{rows_from, rows-after}

-- the words from row r on are 0
abbrev pub zero_from : List ℕ → ℕ → Bool
zero_from ws r = all is_zero (rows_from ws r)

-- a turn of the loop; b is the test of row r, as it is lent
module _ (ws : List ℕ) (r : ℕ) {row : List ℕ} {whole b : Bool} (lent : row ≡ take 14 (rows_from ws r)) (left : zero_from ws r ≡ whole)
    (test : b ≡ all is_zero row) where
  next : (b && zero_from ws (r + 1)) ≡ whole
  next =
      rw (test, lent, ← (rows-after ws r), ← (all_append is_zero (take 14 (rows_from ws r)) (drop 14 (rows_from ws r))))
      (ap (all is_zero) (take-append-drop 14 (rows_from ws r)) ∙ left)

  pub rest-goes-on : not b ≡ false → zero_from ws (r + 1) ≡ whole
  rest-goes-on e = rw (not-false b e) at next
