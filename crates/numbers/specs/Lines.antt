-- The lines of a text that begins with a names line.
use Rattle.std.specs.Prelude.{◌≡◌, ◌⊎◌, ◌≢◌, cond, List, [], ◌∷◌, ◌++◌, ℕ, ◌≤◌, ◌<◌, ltb, length}
use Rattle.std.proofs.Math.Option.{Option, none, some}
use Rattle.numbers.specs.Parts.{parts, same}

-- D1, O6: the lines after the names line, and what stands after the last line feed
abbrev pub lines_after : List ℕ → List (List ℕ) → Option (List (List ℕ))
lines_after names [] = none
lines_after names (l ∷ []) = none
lines_after names (l ∷ m ∷ ls) = cond (same l names) (some (m ∷ ls)) none

-- D1, O6: those of a text of at most `most` bytes, by its lines, which line feeds (10) end; none if it is longer or begins otherwise
unfoldable pub begun_with : ℕ → List ℕ → List ℕ → Option (List (List ℕ))
begun_with most names text = cond (ltb most (length text)) none (lines_after names (parts 10 text))

-- R10: the text is too long, or does not begin with the names line and its line feed
abbrev pub BadStart : ℕ → List ℕ → List ℕ → Type 0
BadStart most names text = (most < length text) ⊎ ((rest : List ℕ) → text ≢ names ++ (10 ∷ rest))

-- the text begins as it should, and goes on with the rest
pub record Begun (most : ℕ) (names text rest : List ℕ) : Type 0 where
  pub short : length text ≤ most
  pub begins : text ≡ names ++ (10 ∷ rest)
