-- What the audit of a space answers.
use Rattle.std.specs.Prelude.{◌≡◌, true, false, cond, List, ℕ, ◌≤◌, get_or, drop, Option, Some, None}
use Rattle.rules.specs.Lists.{all}
use Rattle.rules.specs.State.{live}
use Rattle.rules.specs.Words.{row_start, decode, is_zero, rows_ok, within_limits, sound}

-- S1, S2, S4 to S9, A1: of sound words, how many live entries the party has
unfoldable pub audited : List ℕ → ℕ → Option ℕ
audited ws who = cond (sound ws) (Some (live who (decode ws).entries)) None

-- S6 to S8, A1: the live rows are good, so that what is past them decides; every party is within its limit, and its entries are counted
pub record Counted (ws counts : List ℕ) : Type 0 where
  pub rows : rows_ok (get_or ws 0 0) (drop 17 ws) ≡ all is_zero (drop (row_start (get_or ws 0 0)) ws)
  pub limits : within_limits (decode ws) ≡ true
  pub charges : (who : ℕ) → who ≤ 7 → get_or counts who 0 ≡ live who (decode ws).entries

-- what the pass over the live rows finds: each writer's count of those, or that the space is not sound
abbrev pub AfterRows : Option (List ℕ) → List ℕ → Type 0
AfterRows (Some counts) ws = Counted ws counts
AfterRows None ws = sound ws ≡ false

-- what it answers to one party: the party's count of those, or that the space is not sound
abbrev pub AfterRowsFor : Option ℕ → ℕ → List ℕ → Type 0
AfterRowsFor (Some k) who ws = (counts : List ℕ) × AfterRows (Some counts) ws × (who ≤ 7 → k ≡ get_or counts who 0)
AfterRowsFor None who ws = AfterRows None ws
